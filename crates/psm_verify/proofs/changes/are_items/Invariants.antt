use Rattle.std.proofs.Common.{◌≡◌, length}
use Rattle.psm_code.specs.PlanRules.{are_items}
use Rattle.psm_code.specs.Instructions.{letters_at}
use Rattle.psm_verify.proofs.changes.are_items.Given as goal

abbrev pub invariant-loop-column : goal.invariant-loop-column
invariant-loop-column l = are_items (letters_at l.letters l.left) l.right ≡ are_items (letters_at l.letters l.columns) l.items

abbrev pub decreases-loop-column : goal.decreases-loop-column
decreases-loop-column l = length l.left
