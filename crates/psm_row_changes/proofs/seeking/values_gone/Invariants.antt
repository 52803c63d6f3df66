use Rattle.std.proofs.Common.{◌≡◌, take}
use Rattle.std.specs.Prelude.{map}
use Rattle.psm_table.specs.Key.{values_at}
use Rattle.psm_row_changes.specs.KeyTests.{found_in}
use Rattle.psm_row_changes.proofs.seeking.values_gone.Given as goal

abbrev pub invariant-loop-key : goal.invariant-loop-key
invariant-loop-key l = l.values.items ≡ map (values_at l.columns) (found_in l.table.contents.def.key l.table.contents.rows (take l.key-index l.keys))
