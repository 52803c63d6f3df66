use Rattle.psm_exprcode.proofs.Sharing.{Counting}
use Rattle.psm_exprcode.proofs.stacks.Stacks.depth.Given as goal

abbrev pub invariant-loop-below : goal.invariant-loop-below
invariant-loop-below l = Counting l.self l.number l.rest l.depth

abbrev pub decreases-loop-below : goal.decreases-loop-below
decreases-loop-below l = l.rest
