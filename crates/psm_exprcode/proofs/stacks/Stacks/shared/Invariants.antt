use Rattle.psm_exprcode.proofs.Sharing.{Sharing}
use Rattle.psm_exprcode.proofs.stacks.Stacks.shared.Given as goal

abbrev pub invariant-loop-letter : goal.invariant-loop-letter
invariant-loop-letter l = Sharing l.self l.letters l.rest l.shared l.depth l.count

abbrev pub decreases-loop-letter : goal.decreases-loop-letter
decreases-loop-letter l = l.rest
