use Rattle.std.proofs.Common.{◌≡◌, ◌-◌, List, [], reverse}
use Rattle.psm_table.specs.Table.{Contents}
use Rattle.psm_store.specs.declared.store.Mark.{Mark}
use Rattle.psm_code.specs.Steps.{pops}
use Rattle.psm_unwind.specs.Marks.{SameFrames}
use Rattle.psm_unwind.specs.View.{machine_of}
use Rattle.psm_machine.proofs.putting.pops.Given as goal

abbrev pub invariant-loop-index : goal.invariant-loop-index
invariant-loop-index l = SameFrames l.fn.run l.run
    × ((tables : List Contents) (at : Mark → List Contents) → pops l.fn.count [] (machine_of tables at l.fn.run) ≡ pops (l.fn.count - l.index) (reverse l.values.items) (machine_of tables at l.run))
