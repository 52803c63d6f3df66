use Rattle.std.proofs.Common.{◌≡◌, drop}
use Rattle.psm_scope.specs.Pass.{order}
use Rattle.psm_scope.proofs.choice.order.Given as goal

abbrev pub invariant-loop-index : goal.invariant-loop-index
invariant-loop-index l = order l.index (drop l.index l.args) l.kinds l.others ≡ order 0 l.args l.kinds l.others
