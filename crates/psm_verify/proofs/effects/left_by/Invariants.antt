use Rattle.std.proofs.Common.{◌≡◌, length}
use Rattle.psm_exprcode.specs.WellFormed.{left_of}
use Rattle.psm_verify.proofs.effects.left_by.Given as goal

abbrev pub invariant-loop-letter : goal.invariant-loop-letter
invariant-loop-letter l = left_of l.more l.rest ≡ left_of l.taken l.stack

abbrev pub decreases-loop-letter : goal.decreases-loop-letter
decreases-loop-letter l = length l.more
