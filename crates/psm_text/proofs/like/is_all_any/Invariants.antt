use Rattle.std.proofs.Common.{[], length}
use Rattle.std.specs.Prelude.{◌↔◌}
use Rattle.psm_text.specs.Like.{Matches, items_of}
use Rattle.psm_text.proofs.like.is_all_any.Given as goal

abbrev pub invariant-loop-escape : goal.invariant-loop-escape
invariant-loop-escape l = Matches (items_of l.escape l.pattern) [] ↔ Matches (items_of l.escape l.left) []

abbrev pub decreases-loop-escape : goal.decreases-loop-escape
decreases-loop-escape l = length l.left
