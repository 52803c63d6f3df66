use Rattle.std.proofs.Common.{sym, ◌∙◌}
use Rattle.psm_table.proofs.Keys.{columns_exist}
use Rattle.psm_table.proofs.index.is_entry_of.Goals as goal

pub order-requires : goal.order-requires
order-requires c =
    (columns_exist c.args.columns.now c.args.row.now (sym c.is_null_in.ensures ∙ c.if-is_null_in.false), c.requires)
