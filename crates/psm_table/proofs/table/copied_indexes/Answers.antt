use Rattle.std.proofs.Common.{ap, ◌∙◌}
use Rattle.psm_table.specs.Held.{entries_of}
use Rattle.psm_table.proofs.Entered.{entries-more}
use Rattle.psm_table.proofs.table.copied_indexes.Goals as goal

pub loop-index-preserved : goal.loop-index-preserved
loop-index-preserved c =
    ap entries_of c.in_ok-push.ensures.items
    ∙ entries-more c.loop-index.copy.items c.args.indexes.now c.loop-index.index-index c.in_ok-copy.field-0 c.index-item.result c.loop-index.invariant c.loop-index-test.true c.index-item.is c.in_ok-copy.ensures
