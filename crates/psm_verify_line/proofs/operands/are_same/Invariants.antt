use Rattle.std.proofs.Common.{◌≡◌, length}
use Rattle.psm_exprcode.specs.WellFormed.{same_stack}
use Rattle.psm_verify_line.proofs.operands.are_same.Given as goal

abbrev pub invariant-loop-letter : goal.invariant-loop-letter
invariant-loop-letter l = same_stack l.left l.right ≡ same_stack l.stack l.other

abbrev pub decreases-loop-letter : goal.decreases-loop-letter
decreases-loop-letter l = length l.left
