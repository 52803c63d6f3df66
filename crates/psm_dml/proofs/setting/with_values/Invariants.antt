use Rattle.std.proofs.Common.{◌≡◌, length}
use Rattle.psm_dml.specs.Changes.{set_of}
use Rattle.psm_dml.proofs.Assigned.{Sets}
use Rattle.psm_dml.proofs.setting.with_values.Given as goal

abbrev pub invariant-loop-at : goal.invariant-loop-at
invariant-loop-at l = record {
  so_far : Sets set_of l.def l.sets l.values l.row l.at l.made.items;
  long : length l.made.items ≡ length l.def.columns;
}
