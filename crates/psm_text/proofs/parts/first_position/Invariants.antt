use Rattle.std.proofs.Common.{length}
use Rattle.psm_text.proofs.Positions.{Searching}
use Rattle.psm_text.proofs.parts.first_position.Given as goal

abbrev pub invariant-loop-left : goal.invariant-loop-left
invariant-loop-left l = Searching l.wanted l.characters l.left l.before

abbrev pub decreases-loop-left : goal.decreases-loop-left
decreases-loop-left l = length l.left
