use Rattle.std.proofs.Common.{◌≡◌, List, length}
use Rattle.psm_table.specs.Table.{Contents}
use Rattle.psm_store.specs.declared.store.Mark.{Mark}
use Rattle.psm_code.specs.Steps.{put_values}
use Rattle.psm_unwind.specs.Marks.{SameFrames}
use Rattle.psm_unwind.specs.View.{machine_of}
use Rattle.psm_machine.proofs.queries.put_values.Given as goal

abbrev pub invariant-loop-value : goal.invariant-loop-value
invariant-loop-value l = SameFrames l.fn.run l.run
    × ((tables : List Contents) (at : Mark → List Contents) → put_values l.fn.row (machine_of tables at l.fn.run) ≡ put_values l.values.items (machine_of tables at l.run))

abbrev pub decreases-loop-value : goal.decreases-loop-value
decreases-loop-value l = length l.values.items
