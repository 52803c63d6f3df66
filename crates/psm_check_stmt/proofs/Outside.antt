-- The scopes outside stay after what a compound statement declares.
use Rattle.std.proofs.Common.{◌≡◌, List, [], ◌∷◌, Option, drop, refl, ◌∙◌}
use Rattle.psm_scope.specs.Scopes.{Spelling}
use Rattle.psm_scope.specs.KeptScopes.{declared_here}
use Rattle.psm_scope.specs.declared.known.Variable.{Variable}
use Rattle.psm_tree.specs.declared.name.Identifier.{Identifier}
use Rattle.psm_tree.specs.declared.statement.Declaration.{Declaration}
use Rattle.psm_tree.specs.declared.statement.Declaration.TheVariants as declarations
use Rattle.psm_tree.specs.declared.statement.CursorDeclaration.{CursorDeclaration}
use Rattle.psm_rules.specs.StatementFaults.{several}
use Rattle.psm_rules.specs.Types.{type_of}
use Rattle.psm_rules.specs.CheckerScope.{Scopes, CheckerScope}
use Rattle.psm_rules.specs.BlockFaults.{following, after_cursor, declared_by, declared_scopes, declared_once, declared_cursor, declared_checker_scope, local_variable, opened, state_of, with_cursors, with_variable, with_variables}
use Rattle.psm_rules.proofs.Innermost.{popped_again}

popped_variables : (scopes : Scopes) (ns : List Identifier) (x : Variable) → drop 1 (with_variables scopes ns x) ≡ drop 1 scopes
popped_variables scopes [] x = refl
popped_variables scopes (n ∷ ns) x =
    let d = declared_here scopes in
    popped_variables (with_variable scopes n.name x) ns x ∙ popped_again scopes (record d { variables = declared_once d.variables n.name x })

popped_after : (scopes : Scopes) (x : Declaration) → drop 1 (following scopes x) ≡ drop 1 scopes
popped_after scopes (declarations.Variables place names kind default) = popped_variables scopes (several names) (local_variable (type_of kind))
popped_after scopes (declarations.Condition place name state) =
    let d = declared_here scopes in
    popped_again scopes (record d { conditions = declared_once d.conditions name.name (record { number = 0; state = state_of state }) })

popped_declared : (scopes : Scopes) (xs : List Declaration) → drop 1 (declared_by scopes xs) ≡ drop 1 scopes
popped_declared scopes [] = refl
popped_declared scopes (x ∷ xs) = popped_declared (following scopes x) xs ∙ popped_after scopes x

popped_cursors : (checker_scope : CheckerScope) (xs : List CursorDeclaration) → drop 1 (with_cursors checker_scope xs) ≡ drop 1 checker_scope.scopes
popped_cursors checker_scope [] = refl
popped_cursors checker_scope (x ∷ xs) =
    let d = declared_here checker_scope.scopes in
    popped_cursors (after_cursor checker_scope x) xs ∙ popped_again checker_scope.scopes (record d { cursors = declared_once d.cursors x.name.name (declared_cursor checker_scope x) })

pub popped : (label : Option Spelling) (checker_scope : CheckerScope) (xs : List Declaration) (cursors : List CursorDeclaration) → drop 1 (declared_scopes label checker_scope xs cursors) ≡ checker_scope.scopes
popped label checker_scope xs cursors =
    popped_cursors (declared_checker_scope (opened label checker_scope) xs) cursors ∙ popped_declared (opened label checker_scope).scopes xs
