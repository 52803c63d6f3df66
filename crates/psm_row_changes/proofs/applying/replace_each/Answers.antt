use Rattle.psm_row_changes.specs.Rows.{with_rows, without_keys}
use Rattle.psm_row_changes.proofs.Effects.{both_changes}
use Rattle.psm_row_changes.proofs.applying.replace_each.Goals as goal

pub returns-clause-tables : goal.returns-clause-tables
returns-clause-tables g c =
    both_changes (with_rows c.args.rows.items) (without_keys c.args.keys.now) c.put_each.result (g.S.Store.tables c.args.store.now) (g.S.Store.tables c.erase_each.new.store) (g.S.Store.tables c.put_each.new.store) c.args.t
    c.in_ok-erase_each.ensures.ok c.put_each.ensures.tables
