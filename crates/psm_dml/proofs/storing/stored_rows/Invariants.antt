use Rattle.psm_table.specs.Changing.{stored_row}
use Rattle.psm_table.specs.Definition.{kinds_of}
use Rattle.psm_tablecode.proofs.Collecting.{Collects}
use Rattle.psm_dml.proofs.storing.stored_rows.Given as goal

abbrev pub invariant-loop-row : goal.invariant-loop-row
invariant-loop-row l = Collects (stored_row (kinds_of l.columns)) l.rows l.row-index l.stored.items
