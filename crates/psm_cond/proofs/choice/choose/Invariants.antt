use Rattle.std.proofs.Common.{◌≡◌}
use Rattle.psm_cond.specs.Handlers.{choice}
use Rattle.psm_cond.proofs.choice.choose.Given as goal

abbrev pub invariant-loop-at : goal.invariant-loop-at
invariant-loop-at l = choice l.table l.at l.condition.first ≡ choice l.table l.context l.condition.first

abbrev pub decreases-loop-at : goal.decreases-loop-at
decreases-loop-at l = l.at
