use Rattle.psm_row_changes.proofs.KeyValues.{found_more}
use Rattle.psm_row_changes.proofs.seeking.values_gone.Goals as goal

pub loop-key-preserved : goal.loop-key-preserved
loop-key-preserved c =
    found_more c.args.table.now.contents.def.key c.args.columns.now c.args.table.now.contents.rows c.args.keys.now c.loop-key.key-index c.key-item.result c.loop-key.values.items c.add_gone.new.values.items
    c.loop-key-test.true c.key-item.is c.loop-key.invariant c.in_ok-add_gone.ensures
