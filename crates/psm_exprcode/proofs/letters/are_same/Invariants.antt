use Rattle.psm_exprcode.proofs.Stripping.{Comparing}
use Rattle.psm_exprcode.proofs.letters.are_same.Given as goal

abbrev pub invariant-loop-left : goal.invariant-loop-left
invariant-loop-left l = Comparing l.stacks l.stack l.other l.left l.right

abbrev pub decreases-loop-left : goal.decreases-loop-left
decreases-loop-left l = l.left
