use Rattle.std.proofs.Common.{◌≡◌, List, [], length, reverse, drop}
use Rattle.psm_table.specs.Table.{Contents}
use Rattle.psm_store.specs.declared.store.Mark.{Mark}
use Rattle.psm_code.specs.Parts.{taking}
use Rattle.psm_code.specs.Steps.{pops}
use Rattle.psm_unwind.specs.Marks.{SameFrames}
use Rattle.psm_unwind.specs.View.{machine_of}
use Rattle.psm_machine.proofs.calls.arguments.Given as goal

abbrev pub invariant-loop-parameter : goal.invariant-loop-parameter
invariant-loop-parameter l = record {
  expected : (tables : List Contents) (at : Mark → List Contents) → pops (length (taking l.parameters)) [] (machine_of tables at l.initial.run) ≡ pops (length (taking (drop l.parameter-index l.parameters))) (reverse l.arguments.items) (machine_of tables at l.run);
  same : SameFrames l.initial.run l.run;
}
