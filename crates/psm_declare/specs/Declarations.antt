-- What the declarations of a compound statement end in, with slots and numbers for their names, and what is declared and numbered
-- after them (ISO/IEC 9075-4:1996, compound statement).
use Rattle.std.specs.Prelude.{ℕ, suc, Bool, true, false, Option, Some, None, List, [], ◌∷◌, ◌++◌, option_map, if◌then◌else◌}
use Rattle.psm_value.specs.declared.sqltype.SqlType.{SqlType}
use Rattle.psm_scope.specs.Scopes.{Spelling, undeclared}
use Rattle.psm_scope.specs.Scopes as scope
use Rattle.psm_scope.specs.KeptScopes.{declared_here, redeclared}
use Rattle.psm_scope.specs.declared.known.Variable.{Variable}
use Rattle.psm_scope.specs.declared.known.DeclaredCondition.{DeclaredCondition}
use Rattle.psm_rules.specs.CheckerScope.{SymbolTable}
use Rattle.psm_rules.specs.BlockFaults.{declared_once, is_updatable}
use Rattle.psm_rules.specs.StatementFaults.{several, good_state}
use Rattle.psm_rules.specs.Types.{type_of}
use Rattle.psm_tree.specs.declared.name.Identifier.{Identifier}
use Rattle.psm_tree.specs.declared.types.State.{State}
use Rattle.psm_tree.specs.declared.statement.CursorDeclaration.{CursorDeclaration}
use Rattle.psm_tree.specs.declared.statement.Declaration.{Declaration}
use Rattle.psm_tree.specs.declared.statement.Declaration.TheVariants as declarations
use Rattle.psm_tree.specs.declared.statement.Order.{Order}
use Rattle.psm_tree.specs.declared.statement.OrderedQuery.{OrderedQuery}
use Rattle.psm_resolved.specs.declared.expr.ResolvedQuery.{ResolvedQuery, out-ResolvedQuery, roll-ResolvedQuery}
use Rattle.psm_resolved.specs.declared.statement.ResolvedCondition.TheVariants as conditions
use Rattle.psm_resolved.specs.declared.statement.ResolvedCursor.{ResolvedCursor}
use Rattle.psm_resolved.specs.declared.statement.ResolvedDeclaration.{ResolvedDeclaration}
use Rattle.psm_resolve_expr.specs.Exprs.{resolve_query, type_known}
use Rattle.psm_resolve_expr.specs.ResolverScope.{ResolverScope, Scopes}
use Rattle.psm_declare.specs.Numbering.{Numbering, with_slot, next_slot, with_cursor, with_condition, next_condition}
use Rattle.psm_declare.specs.Seen.{expr_at}

-- ---- declarations: each sees those before it, and a DEFAULT doesn't see the names of its own

-- what is declared so far: the scopes, and what is numbered
abbrev pub Numbered : Type 0
Numbered = Scopes × Numbering

abbrev pub with_variable : Scopes → Spelling → Variable → Scopes
with_variable scopes n x = let d = declared_here scopes in redeclared scopes (record d { variables = declared_once d.variables n x })

abbrev pub with_named_condition : Scopes → Spelling → DeclaredCondition → Scopes
with_named_condition scopes n x = let d = declared_here scopes in redeclared scopes (record d { conditions = declared_once d.conditions n x })

abbrev pub with_numbered_cursor : Scopes → Spelling → ℕ → Scopes
with_numbered_cursor scopes n x = let d = declared_here scopes in redeclared scopes (record d { cursors = declared_once d.cursors n x })

-- a variable of a type, in the next slot
abbrev pub variable_in : SqlType → Numbering → Variable
variable_in t n = record { kind = Some t; slot = next_slot n; assignable = true }

abbrev pub numbered_variable : SqlType → Numbered → Spelling → Numbered
numbered_variable t numbered name = (with_variable numbered.0 name (variable_in t numbered.1), with_slot t numbered.1)

-- the slots of variables of one declaration
abbrev pub numbered_variables : SqlType → Numbered → List Identifier → Numbered
numbered_variables t numbered [] = numbered
numbered_variables t numbered (n ∷ ns) = numbered_variables t (numbered_variable t numbered n.name) ns

abbrev pub slots_from : ℕ → List Identifier → List ℕ
slots_from slot [] = []
slots_from slot (n ∷ ns) = slot ∷ slots_from (suc slot) ns

abbrev pub own_condition : Numbered → Spelling → Numbered
own_condition numbered name = (with_named_condition numbered.0 name (record { number = next_condition numbered.1; state = None }), with_condition name numbered.1)

abbrev pub named_state : Numbered → Spelling → State → Numbered
named_state numbered name s = (with_named_condition numbered.0 name (record { number = 0; state = good_state s.text }), numbered.1)

abbrev pub numbered_condition : Numbered → Spelling → Option State → Numbered
numbered_condition numbered name None = own_condition numbered name
numbered_condition numbered name (Some s) = named_state numbered name s

abbrev pub numbered_after : Numbered → Declaration → Numbered
numbered_after numbered (declarations.Variables place names kind default) = numbered_variables (type_known (type_of kind)) numbered (several names)
numbered_after numbered (declarations.Condition place name state) = numbered_condition numbered name.name state

-- the declaration of variables; one of a condition leaves nothing after
abbrev pub declaration_of : SymbolTable → Numbered → Declaration → List ResolvedDeclaration
declaration_of symbols numbered (declarations.Variables place names kind default) = record {
  slots = slots_from (next_slot numbered.1) (several names);
  default = option_map (expr_at (record { symbols = symbols; scopes = numbered.0; row = None })) default;
} ∷ []
declaration_of symbols numbered (declarations.Condition place name state) = []

abbrev pub declarations_of : SymbolTable → Numbered → List Declaration → List ResolvedDeclaration
declarations_of symbols numbered [] = []
declarations_of symbols numbered (x ∷ xs) = declaration_of symbols numbered x ++ declarations_of symbols (numbered_after numbered x) xs

abbrev pub numbered_by : Numbered → List Declaration → Numbered
numbered_by numbered [] = numbered
numbered_by numbered (x ∷ xs) = numbered_by (numbered_after numbered x) xs

-- ---- cursors

-- an order is that of the key, all upwards or all downwards
abbrev pub is_downward : Option Order → Bool
is_downward None = false
is_downward (Some order) = order.columns.first.descending

abbrev pub ordered : Bool → ResolvedQuery → ResolvedQuery
ordered downward query = let q = out-ResolvedQuery query in roll-ResolvedQuery (record { table = q.table; downward = downward; items = q.items; test = q.test })

abbrev pub ordered_query : ResolverScope → OrderedQuery → ResolvedQuery
ordered_query resolver_scope q = ordered (is_downward q.order) (resolve_query q.query resolver_scope).query

abbrev pub cursor_of : SymbolTable → Numbered → CursorDeclaration → ResolvedCursor
cursor_of symbols numbered x = record {
  number = numbered.1.cursors;
  name = x.name.name;
  insensitive = x.insensitive;
  updatable = is_updatable x.insensitive x.updatability;
  query = ordered_query (record { symbols = symbols; scopes = numbered.0; row = None }) x.query;
}

abbrev pub numbered_cursor : Numbered → CursorDeclaration → Numbered
numbered_cursor numbered x = (with_numbered_cursor numbered.0 x.name.name numbered.1.cursors, with_cursor numbered.1)

abbrev pub cursors_of : SymbolTable → Numbered → List CursorDeclaration → List ResolvedCursor
cursors_of symbols numbered [] = []
cursors_of symbols numbered (x ∷ xs) = cursor_of symbols numbered x ∷ cursors_of symbols (numbered_cursor numbered x) xs

abbrev pub numbered_cursors : Numbered → List CursorDeclaration → Numbered
numbered_cursors numbered [] = numbered
numbered_cursors numbered (x ∷ xs) = numbered_cursors (numbered_cursor numbered x) xs

-- the scopes in which a compound statement declares
abbrev pub opened : Option Spelling → Scopes → Scopes
opened label scopes = scope.Compound label undeclared ∷ scopes
