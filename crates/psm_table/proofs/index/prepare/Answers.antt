use Rattle.std.proofs.Common.{◌∙◌, sym}
use Rattle.psm_table.proofs.Keys.{columns_exist}
use Rattle.psm_table.proofs.index.prepare.Goals as goal

pub of-requires : goal.of-requires
of-requires c =
    (columns_exist c.args.columns.now c.args.row.now (sym c.is_null_in.ensures ∙ c.if-is_null_in.false), c.requires.key)

pub returns-clause-entry : goal.returns-clause-entry
returns-clause-entry c = (c.in_ok-entry.ensures, c.in_ok-reserve.ensures.ready)
