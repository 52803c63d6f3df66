use Rattle.std.proofs.Common.{◌≡◌, ◌++◌, drop, map}
use Rattle.psm_check_stmt.proofs.cursors.cursor_on.Given as goal

abbrev pub invariant-loop-item : goal.invariant-loop-item
invariant-loop-item l = l.shapes.items ++ map (λ i. i.shape) (drop l.item-index l.item-items) ≡ map (λ i. i.shape) l.item-items
