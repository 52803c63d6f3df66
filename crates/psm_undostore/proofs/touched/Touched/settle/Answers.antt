use Rattle.psm_undostore.proofs.Settled.{none_listed, none_once}
use Rattle.psm_undostore.proofs.touched.Touched.settle.Goals as goal

pub invariant_of-self : goal.invariant_of-self
invariant_of-self c = (
  none_listed c.settle_listed.new.is_touched.items c.settle_listed.new.numbers.items c.settle_listed.ensures.numbers c.settle_listed.ensures.none,
  none_once c.settle_listed.new.is_touched.items c.settle_listed.new.numbers.items c.settle_listed.ensures.numbers c.settle_listed.ensures.none,
)
