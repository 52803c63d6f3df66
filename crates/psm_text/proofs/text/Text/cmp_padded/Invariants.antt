use Rattle.std.proofs.Common.{◌≡◌, ◌+◌, length}
use Rattle.psm_text.specs.Order.{padded_order}
use Rattle.psm_text.proofs.text.Text.cmp_padded.Given as goal

abbrev pub invariant-loop-left : goal.invariant-loop-left
invariant-loop-left l = padded_order l.self l.other ≡ padded_order l.left l.right

abbrev pub decreases-loop-left : goal.decreases-loop-left
decreases-loop-left l = length l.left + length l.right
