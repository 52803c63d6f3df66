-- The scopes outside stay after what a FOR statement declares.
use Rattle.std.proofs.Common.{◌≡◌, List, [], ◌∷◌, Option, None, Some, drop, refl, ◌∙◌}
use Rattle.psm_scope.specs.KeptScopes.{declared_here}
use Rattle.psm_rules.specs.BlockFaults.{declared_once}
use Rattle.psm_tree.specs.declared.statement.ForCursor.{ForCursor}
use Rattle.psm_declare.specs.Declarations.{Numbered}
use Rattle.psm_resolve.specs.Blocks.{ForItem, numbered_for_cursor, numbered_item, numbered_items}
use Rattle.psm_rules.proofs.Innermost.{popped_again}
use Rattle.psm_declare.proofs.Outside.{popped_variable}

pub popped_for_cursor : (numbered : Numbered) (cursor : Option ForCursor) → drop 1 (numbered_for_cursor numbered cursor).0 ≡ drop 1 numbered.0
popped_for_cursor numbered None = refl
popped_for_cursor numbered (Some cursor) = let d = declared_here numbered.0 in
    popped_again numbered.0 (record d { cursors = declared_once d.cursors cursor.name.name numbered.1.cursors })

popped_item : (numbered : Numbered) (i : ForItem) → drop 1 (numbered_item numbered i).0 ≡ drop 1 numbered.0
popped_item numbered (None, t) = refl
popped_item numbered (Some n, t) = popped_variable t numbered n

pub popped_items : (numbered : Numbered) (is : List ForItem) → drop 1 (numbered_items numbered is).0 ≡ drop 1 numbered.0
popped_items numbered [] = refl
popped_items numbered (i ∷ is) = popped_items (numbered_item numbered i) is ∙ popped_item numbered i

pub ruleset popped = (popped_for_cursor, popped_items)
