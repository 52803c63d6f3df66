use Rattle.psm_cursor.proofs.Fetched.{items_run}
use Rattle.psm_cursor.proofs.fetching.items_on.Goals as goal

pub values-requires-in-Rows : goal.values-requires-in-Rows
values-requires-in-Rows c =
    items_run c.args.row.now c.values.result.now c.args.vars.now c.args.items.now c.in-Rows.codes c.items.result.now c.in-Rows.is c.items.ensures c.values.ensures c.requires.run
