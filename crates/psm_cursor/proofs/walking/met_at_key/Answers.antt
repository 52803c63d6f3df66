use Rattle.psm_tablecode.proofs.Fitting.{type_checks_row}
use Rattle.psm_cursor.proofs.walking.met_at_key.Goals as goal

pub if_met-requires : goal.if_met-requires
if_met-requires c = (type_checks_row c.args.query.now c.args.vars.now c.args.table.now.contents.def c.in-Some.row.now c.requires.type_checks c.in-Some.ensures.fits).test
