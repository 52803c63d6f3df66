use Rattle.std.proofs.Common.{◌≡◌, length}
use Rattle.psm_text.specs.Like.{well_formed}
use Rattle.psm_text.proofs.like.is_well_formed.Given as goal

abbrev pub invariant-loop-left : goal.invariant-loop-left
invariant-loop-left l = well_formed l.escape l.pattern ≡ well_formed l.escape l.left

abbrev pub decreases-loop-left : goal.decreases-loop-left
decreases-loop-left l = length l.left
