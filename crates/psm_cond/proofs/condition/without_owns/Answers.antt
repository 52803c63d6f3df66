use Rattle.std.proofs.Common.{get_or, ap}
use Rattle.std.proofs.lemmas.List.Edits.{map_over_more}
use Rattle.psm_cond.specs.Entry.{without_own}
use Rattle.psm_cond.proofs.condition.without_owns.Goals as goal

pub loop-entry-preserved : goal.loop-entry-preserved
loop-entry-preserved c =
    let position = c.loop-entry in
    map_over_more without_own c.deref_mut-entry-items.result.now position.entry-items position.entry-index
    (get_or position.entry-items position.entry-index c.entry-item.result) c.loop-entry-test.true position.invariant
    (ap (λ d. get_or position.entry-items position.entry-index d) c.entry-item.is)
