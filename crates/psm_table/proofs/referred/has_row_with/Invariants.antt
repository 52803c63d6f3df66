use Rattle.std.proofs.Common.{◌≡◌, length}
use Rattle.psm_table.specs.Keyed.{has_values}
use Rattle.psm_table.proofs.referred.has_row_with.Given as goal

abbrev pub invariant-rows : goal.invariant-rows
invariant-rows l = has_values l.columns l.values l.initial.rows ≡ has_values l.columns l.values l.rows

abbrev pub decreases-rows : goal.decreases-rows
decreases-rows l = length l.rows
