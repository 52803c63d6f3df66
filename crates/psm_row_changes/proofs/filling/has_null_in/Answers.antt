use Rattle.std.proofs.Common.{sym, ◌∙◌}
use Rattle.psm_table.proofs.Keys.{null_true}
use Rattle.psm_row_changes.proofs.filling.has_null_in.Goals as goal

pub returns-then-is_null_at : goal.returns-then-is_null_at
returns-then-is_null_at c =
    null_true c.args.columns.now c.args.row.now c.loop-column.column-index c.loop-column-test.true (sym c.is_null_at.ensures ∙ c.if-is_null_at.true)
