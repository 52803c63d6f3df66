use Rattle.std.proofs.Common.{◌≡◌, ◌<◌, length, drop}
use Rattle.psm_exprcode.specs.Stacks.{stack_at}
use Rattle.psm_exprcode.proofs.stacks.Stacks.dropped.Given as goal

abbrev pub invariant-loop-more : goal.invariant-loop-more
invariant-loop-more l = (l.rest < length l.self) × (l.above < length l.self) × (drop l.more (stack_at l.self l.rest) ≡ drop l.count (stack_at l.self l.number))

abbrev pub decreases-loop-more : goal.decreases-loop-more
decreases-loop-more l = l.more
