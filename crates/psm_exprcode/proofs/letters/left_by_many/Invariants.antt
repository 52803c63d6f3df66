use Rattle.std.proofs.Common.{◌≡◌, ◌<◌, length}
use Rattle.std.specs.Prelude.{replicate}
use Rattle.psm_exprcode.specs.Stacks.{stack_at}
use Rattle.psm_exprcode.specs.WellFormed.{left_of}
use Rattle.psm_exprcode.proofs.letters.left_by_many.Given as goal

abbrev pub invariant-loop-more : goal.invariant-loop-more
invariant-loop-more l = (l.rest < length l.stacks) × (left_of (replicate l.more l.letter) (stack_at l.stacks l.rest) ≡ left_of (replicate l.count l.letter) (stack_at l.stacks l.stack))

abbrev pub decreases-loop-more : goal.decreases-loop-more
decreases-loop-more l = l.more
