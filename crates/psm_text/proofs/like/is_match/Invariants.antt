use Rattle.std.proofs.Common.{◌+◌, ◌*◌, ◌≤◌, length}
use Rattle.psm_text.proofs.Retries.{Going, room}
use Rattle.psm_text.proofs.like.is_match.Given as goal

abbrev pub invariant-loop-rest : goal.invariant-loop-rest
invariant-loop-rest l = record {
  going : Going l.escape l.retry l.pattern l.text l.items l.rest;
  items_within : length l.items ≤ length l.pattern;
}

abbrev pub decreases-loop-rest : goal.decreases-loop-rest
decreases-loop-rest l = room l.retry l.text * (length l.pattern + 1) + length l.items
