use Rattle.std.proofs.Common.{length, ◌≤◌}
use Rattle.psm_text.proofs.Trims.{Back}
use Rattle.psm_text.proofs.parts.without_end.Given as goal

abbrev pub invariant-loop-left : goal.invariant-loop-left
invariant-loop-left l = record {
  parts : Back l.characters l.left;
  shorter : length l.left ≤ length l.characters;
}

abbrev pub decreases-loop-left : goal.decreases-loop-left
decreases-loop-left l = length l.left
