-- The scopes outside stay after what a compound statement declares.
use Rattle.std.proofs.Common.{◌≡◌, List, [], ◌∷◌, Option, None, Some, drop, refl, ◌∙◌}
use Rattle.psm_value.specs.declared.sqltype.SqlType.{SqlType}
use Rattle.psm_scope.specs.Scopes.{Spelling}
use Rattle.psm_scope.specs.KeptScopes.{declared_here}
use Rattle.psm_rules.specs.BlockFaults.{declared_once}
use Rattle.psm_rules.specs.StatementFaults.{several, good_state}
use Rattle.psm_rules.specs.Types.{type_of}
use Rattle.psm_rules.proofs.Innermost.{popped_again}
use Rattle.psm_tree.specs.declared.name.Identifier.{Identifier}
use Rattle.psm_tree.specs.declared.types.State.{State}
use Rattle.psm_tree.specs.declared.statement.Declaration.{Declaration}
use Rattle.psm_tree.specs.declared.statement.Declaration.TheVariants as declarations
use Rattle.psm_tree.specs.declared.statement.CursorDeclaration.{CursorDeclaration}
use Rattle.psm_resolve_expr.specs.Exprs.{type_known}
use Rattle.psm_declare.specs.Numbering.{next_condition}
use Rattle.psm_declare.specs.Declarations.{Numbered, numbered_after, numbered_by, numbered_condition, numbered_cursor, numbered_cursors, numbered_variable, numbered_variables, variable_in}

pub popped_variable : (t : SqlType) (numbered : Numbered) (n : Spelling) → drop 1 (numbered_variable t numbered n).0 ≡ drop 1 numbered.0
popped_variable t numbered n = let d = declared_here numbered.0 in popped_again numbered.0 (record d { variables = declared_once d.variables n (variable_in t numbered.1) })

popped_variables : (t : SqlType) (numbered : Numbered) (ns : List Identifier) → drop 1 (numbered_variables t numbered ns).0 ≡ drop 1 numbered.0
popped_variables t numbered [] = refl
popped_variables t numbered (n ∷ ns) = popped_variables t (numbered_variable t numbered n.name) ns ∙ popped_variable t numbered n.name

popped_condition : (numbered : Numbered) (n : Spelling) (state : Option State) → drop 1 (numbered_condition numbered n state).0 ≡ drop 1 numbered.0
popped_condition numbered n None = let d = declared_here numbered.0 in
    popped_again numbered.0 (record d { conditions = declared_once d.conditions n (record { number = next_condition numbered.1; state = None }) })
popped_condition numbered n (Some s) = let d = declared_here numbered.0 in
    popped_again numbered.0 (record d { conditions = declared_once d.conditions n (record { number = 0; state = good_state s.text }) })

popped_after : (numbered : Numbered) (x : Declaration) → drop 1 (numbered_after numbered x).0 ≡ drop 1 numbered.0
popped_after numbered (declarations.Variables place names kind default) = popped_variables (type_known (type_of kind)) numbered (several names)
popped_after numbered (declarations.Condition place name state) = popped_condition numbered name.name state

pub popped_by : (numbered : Numbered) (xs : List Declaration) → drop 1 (numbered_by numbered xs).0 ≡ drop 1 numbered.0
popped_by numbered [] = refl
popped_by numbered (x ∷ xs) = popped_by (numbered_after numbered x) xs ∙ popped_after numbered x

pub popped_cursors : (numbered : Numbered) (xs : List CursorDeclaration) → drop 1 (numbered_cursors numbered xs).0 ≡ drop 1 numbered.0
popped_cursors numbered [] = refl
popped_cursors numbered (x ∷ xs) = let d = declared_here numbered.0 in
    popped_cursors (numbered_cursor numbered x) xs ∙ popped_again numbered.0 (record d { cursors = declared_once d.cursors x.name.name numbered.1.cursors })

pub ruleset popped = (popped_by, popped_cursors)
