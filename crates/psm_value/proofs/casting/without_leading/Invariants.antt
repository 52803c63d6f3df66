use Rattle.std.proofs.Common.{◌≡◌, length}
use Rattle.psm_value.specs.Cast.{without_front}
use Rattle.psm_value.proofs.casting.without_leading.Given as goal

abbrev pub invariant-loop-after : goal.invariant-loop-after
invariant-loop-after l = without_front l.characters ≡ without_front l.rest

abbrev pub decreases-loop-after : goal.decreases-loop-after
decreases-loop-after l = length l.rest
