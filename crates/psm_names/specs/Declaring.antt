-- What is declared up to a point of a routine, and the occurrences in declarations (ISO/IEC 9075-4:1996, compound statement).
use Rattle.std.specs.Prelude.{ℕ, suc, List, [], ◌∷◌, ◌++◌, map, Option, Some, None, option_map}
use Rattle.psm_value.specs.declared.sqltype.SqlType.{SqlType}
use Rattle.psm_value.specs.declared.sqltype.SqlType.TheVariants as types
use Rattle.psm_scope.specs.Scopes.{Spelling, For, undeclared}
use Rattle.psm_scope.specs.Lookup.{RowTable, column_meant}
use Rattle.psm_scope.specs.KeptScopes.{declared_here, redeclared}
use Rattle.psm_rules.specs.CheckerScope.{SymbolTable}
use Rattle.psm_rules.specs.BlockFaults.{declared_once, last_name, wide}
use Rattle.psm_rules.specs.declared.shape.Shape.{Shape}
use Rattle.psm_rules.specs.declared.shape.Shape.TheVariants.{Value, Untyped}
use Rattle.psm_rules.specs.declared.shape.Shape.TheVariants as shape
use Rattle.psm_rules.specs.Shapes.{family_of}
use Rattle.psm_rules.specs.Types.{type_of}
use Rattle.psm_resolve_expr.specs.Exprs.{type_known}
use Rattle.psm_rules.specs.ExprFaults.{spelling}
use Rattle.psm_rules.specs.StatementFaults.{several, good_state}
use Rattle.psm_tree.specs.declared.name.Identifier.{Identifier}
use Rattle.psm_tree.specs.declared.name.Target.{Target}
use Rattle.psm_tree.specs.declared.types.State.{State}
use Rattle.psm_tree.specs.declared.expr.Expr.{Expr, out-Expr}
use Rattle.psm_tree.specs.declared.expr.Expr.TheOpen.{Expr-F, Pick-F}
use Rattle.psm_tree.specs.declared.expr.Expr.TheOpen as layers
use Rattle.psm_tree.specs.declared.expr.ChainLink.{ChainLink}
use Rattle.psm_tree.specs.declared.expr.When.{When}
use Rattle.psm_tree.specs.declared.expr.Pick.{Pick, out-Pick}
use Rattle.psm_tree.specs.declared.expr.Select.{Select, out-Select}
use Rattle.psm_tree.specs.declared.statement.CursorDeclaration.{CursorDeclaration}
use Rattle.psm_tree.specs.declared.statement.Declaration.{Declaration}
use Rattle.psm_tree.specs.declared.statement.Declaration.TheVariants as declarations
use Rattle.psm_tree.specs.declared.statement.ForCursor.{ForCursor}
use Rattle.psm_tree.specs.declared.statement.ForHead.{ForHead}
use Rattle.psm_resolved.specs.declared.statement.ResolvedCondition.{ResolvedCondition}
use Rattle.psm_resolved.specs.declared.statement.ResolvedCondition.TheVariants as conditions
use Rattle.psm_names.specs.Referents.{Referent, Null, Variable, Cursor, Condition, perhaps}
use Rattle.psm_names.specs.Occurrences.{EnclosingScopes, KnownVariable, Occurrence, Declared, Site}
use Rattle.psm_names.specs.ExprOccurrences.{expr_occurrences, expr_seen, on_row, query_occurrences, row_of}

-- how many variables, cursors and conditions without an SQLSTATE are declared before a point of a routine
pub record Ordinals : Type 0 where
  pub variables : ℕ
  pub cursors : ℕ
  pub conditions : ℕ

abbrev pub one_variable : Ordinals → Ordinals
one_variable n = record n { variables = suc n.variables }

abbrev pub one_cursor : Ordinals → Ordinals
one_cursor n = record n { cursors = suc n.cursors }

abbrev pub one_condition : Ordinals → Ordinals
one_condition n = record n { conditions = suc n.conditions }

-- a point of a routine: the scopes around it, and what is declared before it
abbrev pub Point : Type 0
Point = EnclosingScopes × Ordinals

-- ---- a declaration in the innermost scope; a name that is declared there again stays what it is

abbrev pub naming_variable : EnclosingScopes → Spelling → KnownVariable → EnclosingScopes
naming_variable scopes name x = let d = declared_here scopes in redeclared scopes (record d { variables = declared_once d.variables name x })

abbrev pub naming_condition : EnclosingScopes → Spelling → ResolvedCondition → EnclosingScopes
naming_condition scopes name x = let d = declared_here scopes in redeclared scopes (record d { conditions = declared_once d.conditions name x })

abbrev pub naming_cursor : EnclosingScopes → Spelling → ℕ → EnclosingScopes
naming_cursor scopes name x = let d = declared_here scopes in redeclared scopes (record d { cursors = declared_once d.cursors name x })

abbrev pub with_variable : SqlType → Point → Spelling → Point
with_variable t p name = (naming_variable p.0 name (record { ordinal = p.1.variables; kind = Some t }), one_variable p.1)

abbrev pub with_variables : SqlType → Point → List Identifier → Point
with_variables t p [] = p
with_variables t p (n ∷ ns) = with_variables t (with_variable t p n.name) ns

-- a text that is no SQLSTATE of a condition is in no accepted file
abbrev pub as_state : Option Spelling → ResolvedCondition
as_state None = conditions.Own 0
as_state (Some s) = conditions.State s

abbrev pub with_condition : Point → Spelling → Option State → Point
with_condition p name None = (naming_condition p.0 name (conditions.Own p.1.conditions), one_condition p.1)
with_condition p name (Some s) = (naming_condition p.0 name (as_state (good_state s.text)), p.1)

abbrev pub with_cursor : Point → Spelling → Point
with_cursor p name = (naming_cursor p.0 name p.1.cursors, one_cursor p.1)

-- ---- declarations: each sees those before it, and a DEFAULT doesn't see the names of its own

abbrev pub control : SymbolTable → EnclosingScopes → Site
control symbols scopes = record { symbols = symbols; scopes = scopes; row = None }

abbrev pub with_declaration : Point → Declaration → Point
with_declaration p (declarations.Variables place names kind default) = with_variables (type_known (type_of kind)) p (several names)
with_declaration p (declarations.Condition place name state) = with_condition p name.name state

abbrev pub with_declarations : Point → List Declaration → Point
with_declarations p [] = p
with_declarations p (x ∷ xs) = with_declarations (with_declaration p x) xs

-- variables with these names, counted from k
abbrev pub variables_from : ℕ → List (Option Spelling) → List Occurrence
variables_from k [] = []
variables_from k (n ∷ ns) = Declared n (Variable k) ∷ variables_from (suc k) ns

abbrev pub names_of : List Identifier → List (Option Spelling)
names_of ns = map (λ n. Some n.name) ns

-- what is declared as a condition; a text that is no SQLSTATE of a condition is nothing
abbrev pub stated : Option Spelling → Referent
stated None = Null
stated (Some s) = Condition (conditions.State s)

abbrev pub condition_declared : ℕ → Option State → Referent
condition_declared k None = Condition (conditions.Own k)
condition_declared k (Some s) = stated (good_state s.text)

abbrev pub optional_occurrences : Site → Option Expr → List Occurrence
optional_occurrences site e = perhaps (option_map (λ e. expr_occurrences e site) e)

abbrev pub in_declaration : SymbolTable → Point → Declaration → List Occurrence
in_declaration symbols p (declarations.Variables place names kind default) = variables_from p.1.variables (names_of (several names)) ++ optional_occurrences (control symbols p.0) default
in_declaration symbols p (declarations.Condition place name state) = Declared (Some name.name) (condition_declared p.1.conditions state) ∷ []

abbrev pub in_declarations : SymbolTable → Point → List Declaration → List Occurrence
in_declarations symbols p [] = []
in_declarations symbols p (x ∷ xs) = in_declaration symbols p x ++ in_declarations symbols (with_declaration p x) xs

-- ---- cursors

abbrev pub with_cursors : Point → List CursorDeclaration → Point
with_cursors p [] = p
with_cursors p (x ∷ xs) = with_cursors (with_cursor p x.name.name) xs

abbrev pub in_cursors : SymbolTable → Point → List CursorDeclaration → List Occurrence
in_cursors symbols p [] = []
in_cursors symbols p (x ∷ xs) = Declared (Some x.name.name) (Cursor p.1.cursors) ∷ (query_occurrences x.query.query (control symbols p.0) ++ in_cursors symbols (with_cursor p x.name.name) xs)

-- ---- FOR: each item of its query declares a variable, and each column of `*` one. An item has its own name, or that of the column
-- that it is. It has the type of the column, or else NUMERIC(18, s) or VARCHAR(4000).

abbrev pub Item : Type 0
Item = Option Spelling × SqlType

abbrev pub Column : Type 0
Column = Spelling × Option SqlType

abbrev pub named_column : Target → Option (ℕ × Option SqlType) → Option Column
named_column t None = None
named_column t (Some c) = Some (last_name t.first t.second, c.1)

abbrev pub item_column : RowTable (Option SqlType) → Expr-F Expr Pick ChainLink Select When → Option Column
item_column row (layers.Name t) = named_column t (column_meant t.first.name (spelling t.second) row)
item_column row e = None

abbrev pub item_name : Option Identifier → Option Column → Option Spelling
item_name (Some alias) column = Some alias.name
item_name None None = None
item_name None (Some c) = Some c.0

abbrev pub wide_type : Shape → SqlType
wide_type (Value t) = wide (family_of t.kind) t.scale
wide_type Untyped = types.Integer
wide_type shape.Condition = types.Integer

abbrev pub item_type : Option Column → Shape → SqlType
item_type (Some c) s = type_known c.1
item_type None s = wide_type s

abbrev pub pick_items : Site → RowTable (Option SqlType) → Pick-F Expr Pick ChainLink Select When → List Item
pick_items site row (layers.All place) = map (λ c. (Some c.0, type_known c.1)) row.columns
pick_items site row (layers.Expr e alias) = let column = item_column row (out-Expr e) in (item_name alias column, item_type column (expr_seen e site).shape) ∷ []
pick_items site row (layers.CountRows place alias) = []
pick_items site row (layers.Aggregate place function argument alias) = []

abbrev pub items_of : Site → RowTable (Option SqlType) → List Pick → List Item
items_of site row [] = []
items_of site row (p ∷ ps) = pick_items site row (out-Pick p) ++ items_of site row ps

abbrev pub for_items : Site → Select → List Item
for_items site select = let s = out-Select select in items_of (on_row site s.table.name (spelling s.alias)) (row_of site.symbols s.table.name (spelling s.alias)) (several s.picks)

abbrev pub with_item : Point → Item → Point
with_item p (None, t) = (p.0, one_variable p.1)
with_item p (Some name, t) = with_variable t p name

abbrev pub with_items : Point → List Item → Point
with_items p [] = p
with_items p (i ∷ is) = with_items (with_item p i) is

-- a cursor that is given no name has none to look up
abbrev pub with_for_cursor : Point → Option ForCursor → Point
with_for_cursor p None = (p.0, one_cursor p.1)
with_for_cursor p (Some cursor) = with_cursor p cursor.name.name

-- the scope of the statements in FOR
abbrev pub in_for : Site → Option Spelling → ForHead → Ordinals → Point
in_for site label head n = with_items (with_for_cursor (For label head.name.name undeclared ∷ site.scopes, n) head.cursor) (for_items site head.query.query)

abbrev pub cursor_name : Option ForCursor → Option Spelling
cursor_name None = None
cursor_name (Some cursor) = Some cursor.name.name

abbrev pub item_names : List Item → List (Option Spelling)
item_names is = map (λ i. i.0) is

abbrev pub in_head : Site → ForHead → Ordinals → List Occurrence
in_head site head n = Declared (cursor_name head.cursor) (Cursor n.cursors) ∷ (query_occurrences head.query.query site ++ variables_from n.variables (item_names (for_items site head.query.query)))
