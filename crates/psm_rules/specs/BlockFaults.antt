-- The first fault of a block with its declarations, and of statements in it (ISO/IEC 9075-4:1996, compound statements).
use Rattle.std.specs.Prelude.{ℕ, Bool, true, false, not, ◌&&◌, ◌||◌, Option, Some, None, is_some, List, [], ◌∷◌, ◌++◌, map, option_map, if◌then◌else◌}
use Rattle.std.specs.List.{list_all, list_any}
use Rattle.psm_terms.specs.declared.routines.HandlerKind.{HandlerKind}
use Rattle.psm_terms.specs.declared.routines.HandlerKind.TheVariants.{Continue, Exit, Undo}
use Rattle.psm_token.specs.declared.place.Place.{Place}
use Rattle.psm_value.specs.declared.sqltype.SqlType.{SqlType}
use Rattle.psm_value.specs.declared.sqltype.SqlType.TheVariants as types
use Rattle.psm_scope.specs.Rows.{columns_known}
use Rattle.psm_scope.specs.Scopes.{Spelling, is_spelled, Scope, undeclared}
use Rattle.psm_scope.specs.Scopes as scope
use Rattle.psm_scope.specs.Lookup.{Meaning, named}
use Rattle.psm_scope.specs.Lookup as lookup
use Rattle.psm_scope.specs.KeptScopes.{declared_here, redeclared}
use Rattle.psm_tree.specs.declared.name.Identifier.{Identifier}
use Rattle.psm_tree.specs.declared.types.State.{State}
use Rattle.psm_tree.specs.declared.name.Target.{Target}
use Rattle.psm_tree.specs.declared.expr.Expr.{Expr, out-Expr}
use Rattle.psm_tree.specs.declared.expr.Expr.TheOpen.{Expr-F, Pick-F}
use Rattle.psm_tree.specs.declared.expr.Expr.TheOpen as expr_layers
use Rattle.psm_tree.specs.declared.expr.Pick.{Pick, out-Pick}
use Rattle.psm_tree.specs.declared.expr.ChainLink.{ChainLink}
use Rattle.psm_tree.specs.declared.expr.When.{When}
use Rattle.psm_tree.specs.declared.expr.Select.{Select, out-Select}
use Rattle.psm_tree.specs.declared.statement.Statement.{Statement}
use Rattle.psm_tree.specs.declared.statement.Block.TheOpen.{Block-F, Statement-F, Branch-F, Handler-F}
use Rattle.psm_tree.specs.declared.statement.Block.TheOpen as layers
use Rattle.psm_tree.specs.declared.statement.Block.TheFolds.{fold-Block, fold-Statement, fold-Branch, fold-Handler}
use Rattle.psm_tree.specs.declared.statement.Block.{Block}
use Rattle.psm_tree.specs.declared.statement.Branch.{Branch}
use Rattle.psm_tree.specs.declared.statement.Handler.{Handler}
use Rattle.psm_tree.specs.declared.statement.ForHead.{ForHead}
use Rattle.psm_tree.specs.declared.statement.ForCursor.{ForCursor}
use Rattle.psm_tree.specs.declared.statement.OrderedQuery.{OrderedQuery}
use Rattle.psm_tree.specs.declared.statement.Order.{Order}
use Rattle.psm_tree.specs.declared.statement.OrderColumn.{OrderColumn}
use Rattle.psm_tree.specs.declared.statement.Declaration.{Declaration}
use Rattle.psm_tree.specs.declared.statement.Declaration.TheVariants as declarations
use Rattle.psm_tree.specs.declared.statement.CursorDeclaration.{CursorDeclaration}
use Rattle.psm_tree.specs.declared.statement.Updatability.{Updatability}
use Rattle.psm_tree.specs.declared.statement.Updatability.TheVariants as updatability
use Rattle.psm_tree.specs.declared.statement.HandlerValue.{HandlerValue}
use Rattle.psm_tree.specs.declared.statement.HandlerValue.TheVariants as handled
use Rattle.psm_rules.specs.declared.fault.Fault.{Fault}
use Rattle.psm_rules.specs.declared.rule.Rule.TheVariants as rule
use Rattle.psm_rules.specs.ExprFaults.{PickChecked, QueryChecked, check_query, query_fault, table_fault, test_fault, type_fault, items_of, is_all, first_set, misplaced_set, simple_test, name_in, check_pick, row_of}
use Rattle.psm_rules.specs.Faults.{breaks, breaks_if, earlier, first_of}
use Rattle.psm_rules.specs.declared.checked.Checked.{Checked}
use Rattle.psm_rules.specs.Checked.{as_value, as_condition}
use Rattle.psm_rules.specs.declared.shape.Shape.{Shape}
use Rattle.psm_rules.specs.declared.shape.Family.{Family}
use Rattle.psm_rules.specs.declared.shape.Shape.TheVariants.{Value, Untyped}
use Rattle.psm_rules.specs.declared.shape.Family.TheVariants.{Numbers, Texts}
use Rattle.psm_rules.specs.Shapes.{family_of}
use Rattle.psm_rules.specs.declared.shape.Shape.TheVariants as shape
use Rattle.psm_rules.specs.StatementFaults.{Context, inside, checked, several, repeated, source_fault, state_fault, good_state, declared_condition, name_of_condition_fault, label_of, label_name, simple_fault}
use Rattle.psm_rules.specs.Types.{type_of}
use Rattle.psm_scope.specs.declared.known.Variable.{Variable}
use Rattle.psm_scope.specs.declared.known.DeclaredCondition.{DeclaredCondition}
use Rattle.psm_rules.specs.CheckerScope.{CheckerScope, SymbolTable, Cursor, Columns, Scopes, on_row}

-- ---- declarations of variables and conditions

-- a name that is declared again stays what it is
abbrev pub declared_once : {A : Type 0} → List (Spelling × A) → Spelling → A → List (Spelling × A)
declared_once xs n x = if is_some (named n xs) then xs else xs ++ (n, x) ∷ []

-- what stands declared after a declaration in the innermost scope
abbrev pub with_variable : Scopes → Spelling → Variable → Scopes
with_variable scopes n x = let d = declared_here scopes in redeclared scopes (record d { variables = declared_once d.variables n x })

abbrev pub with_condition : Scopes → Spelling → DeclaredCondition → Scopes
with_condition scopes n x = let d = declared_here scopes in redeclared scopes (record d { conditions = declared_once d.conditions n x })

abbrev pub with_cursor : Scopes → Spelling → Cursor → Scopes
with_cursor scopes n x = let d = declared_here scopes in redeclared scopes (record d { cursors = declared_once d.cursors n x })

abbrev pub with_variables : Scopes → List Identifier → Variable → Scopes
with_variables scopes [] x = scopes
with_variables scopes (n ∷ ns) x = with_variables (with_variable scopes n.name x) ns x

abbrev pub local_variable : Option SqlType → Variable
local_variable kind = record { kind = kind; slot = 0; assignable = true }

-- the SQLSTATE that a condition is another name of; a bad one doesn't count
abbrev pub state_of : Option State → Option Spelling
state_of None = None
state_of (Some s) = good_state s.text

abbrev pub following : Scopes → Declaration → Scopes
following scopes (declarations.Variables place names kind default) = with_variables scopes (several names) (local_variable (type_of kind))
following scopes (declarations.Condition place name state) = with_condition scopes name.name (record { number = 0; state = state_of state })

abbrev pub default_fault : CheckerScope → Option SqlType → Option Expr → Option Fault
default_fault checker_scope kind None = None
default_fault checker_scope kind (Some e) = source_fault kind (checked checker_scope e)

abbrev pub optional_state_fault : Option State → Option Fault
optional_state_fault None = None
optional_state_fault (Some s) = state_fault s

-- A DEFAULT sees the variables of the declarations before its own.
abbrev pub declaration_fault : CheckerScope → Declaration → Option Fault
declaration_fault checker_scope (declarations.Variables place names kind default) = earlier (type_fault kind (type_of kind)) (default_fault checker_scope (type_of kind) default)
declaration_fault checker_scope (declarations.Condition place name state) = optional_state_fault state

abbrev pub in_scopes : CheckerScope → Scopes → CheckerScope
in_scopes checker_scope scopes = record checker_scope { scopes = scopes }

abbrev pub declarations_fault : CheckerScope → List Declaration → List (Option Fault)
declarations_fault checker_scope [] = []
declarations_fault checker_scope (x ∷ xs) = declaration_fault checker_scope x ∷ declarations_fault (in_scopes checker_scope (following checker_scope.scopes x)) xs

abbrev pub declared_by : Scopes → List Declaration → Scopes
declared_by scopes [] = scopes
declared_by scopes (x ∷ xs) = declared_by (following scopes x) xs

-- the names of variables, and those of conditions
abbrev pub variables_of : Declaration → List Identifier
variables_of (declarations.Variables place names kind default) = several names
variables_of (declarations.Condition place name state) = []

abbrev pub variable_names : List Declaration → List Identifier
variable_names [] = []
variable_names (x ∷ xs) = variables_of x ++ variable_names xs

abbrev pub conditions_of : Declaration → List Identifier
conditions_of (declarations.Variables place names kind default) = []
conditions_of (declarations.Condition place name state) = name ∷ []

abbrev pub condition_names : List Declaration → List Identifier
condition_names [] = []
condition_names (x ∷ xs) = conditions_of x ++ condition_names xs

-- ---- the order of a query: exactly the key, all upwards or all downwards

abbrev pub same_names : List Spelling → List Spelling → Bool
same_names [] [] = true
same_names [] (n ∷ ns) = false
same_names (m ∷ ms) [] = false
same_names (m ∷ ms) (n ∷ ns) = is_spelled m n && same_names ms ns

abbrev pub is_key_order : List Spelling → List OrderColumn → Bool
is_key_order key columns = same_names key (map (λ c. c.column.name) columns) &&
    (list_all (λ c. c.descending) columns || list_all (λ c. not c.descending) columns)

abbrev pub order_of : Option (List Spelling) → Order → Option Fault
order_of None order = None
order_of (Some key) order = breaks_if (not (is_key_order key (several order.columns))) rule.OrderIsNotKey order.place

abbrev pub order_fault : SymbolTable → Identifier → Option Order → Option Fault
order_fault symbols table None = None
order_fault symbols table (Some order) = order_of (named table.name symbols.keys) order

-- ---- cursors; no set function stands in one

abbrev pub is_updatable : Bool → Option Updatability → Bool
is_updatable insensitive None = not insensitive
is_updatable insensitive (Some updatability.ReadOnly) = false
is_updatable insensitive (Some updatability.Update) = not insensitive

abbrev pub cursor_on : QueryChecked → Bool → Bool → Cursor
cursor_on q updatable of_for = record { table = q.table.name; updatable = updatable; of_for = of_for; items = option_map (map (λ i. i.shape)) (items_of q) }

abbrev pub checked_query : CheckerScope → OrderedQuery → QueryChecked
checked_query checker_scope q = check_query q.query checker_scope

abbrev pub cursor_fault : CheckerScope → CursorDeclaration → Option Fault
cursor_fault checker_scope x = let q = checked_query checker_scope x.query in
    first_of (query_fault q ∷ misplaced_set true (first_set q.picks) ∷ order_fault checker_scope.symbols q.table x.query.order ∷ [])

abbrev pub declared_cursor : CheckerScope → CursorDeclaration → Cursor
declared_cursor checker_scope x = cursor_on (checked_query checker_scope x.query) (is_updatable x.insensitive x.updatability) false

-- each sees what stands before it
abbrev pub after_cursor : CheckerScope → CursorDeclaration → CheckerScope
after_cursor checker_scope x = in_scopes checker_scope (with_cursor checker_scope.scopes x.name.name (declared_cursor checker_scope x))

abbrev pub cursors_fault : CheckerScope → List CursorDeclaration → List (Option Fault)
cursors_fault checker_scope [] = []
cursors_fault checker_scope (x ∷ xs) = cursor_fault checker_scope x ∷ cursors_fault (after_cursor checker_scope x) xs

abbrev pub with_cursors : CheckerScope → List CursorDeclaration → Scopes
with_cursors checker_scope [] = checker_scope.scopes
with_cursors checker_scope (x ∷ xs) = with_cursors (after_cursor checker_scope x) xs

-- ---- handlers

-- what a value handles, where that is known: an SQLSTATE, a condition without one, or a class
pub data Handles : Type 0 where
  ByState : Spelling → Handles
  ByName : Spelling → Handles
  Exceptions Warnings NoData : Handles

abbrev pub same_value : Handles → Handles → Bool
same_value (ByState a) (ByState b) = is_spelled a b
same_value (ByState a) (ByName b) = false
same_value (ByState a) Exceptions = false
same_value (ByState a) Warnings = false
same_value (ByState a) NoData = false
same_value (ByName a) (ByState b) = false
same_value (ByName a) (ByName b) = is_spelled a b
same_value (ByName a) Exceptions = false
same_value (ByName a) Warnings = false
same_value (ByName a) NoData = false
same_value Exceptions (ByState b) = false
same_value Exceptions (ByName b) = false
same_value Exceptions Exceptions = true
same_value Exceptions Warnings = false
same_value Exceptions NoData = false
same_value Warnings (ByState b) = false
same_value Warnings (ByName b) = false
same_value Warnings Exceptions = false
same_value Warnings Warnings = true
same_value Warnings NoData = false
same_value NoData (ByState b) = false
same_value NoData (ByName b) = false
same_value NoData Exceptions = false
same_value NoData Warnings = false
same_value NoData NoData = true

-- a name that is declared FOR an SQLSTATE is that SQLSTATE
abbrev pub named_value : Spelling → Option Spelling → Handles
named_value n None = ByName n
named_value n (Some s) = ByState s

abbrev pub handles : Scopes → HandlerValue → Option Handles
handles scopes (handled.State s) = option_map (λ s. ByState s) (good_state s.text)
handles scopes (handled.Name n) = option_map (λ d. named_value n.name d.state) (declared_condition scopes n)
handles scopes (handled.SqlException place) = Some Exceptions
handles scopes (handled.SqlWarning place) = Some Warnings
handles scopes (handled.NotFound place) = Some NoData

abbrev pub value_place : HandlerValue → Place
value_place (handled.State s) = s.place
value_place (handled.Name n) = n.place
value_place (handled.SqlException place) = place
value_place (handled.SqlWarning place) = place
value_place (handled.NotFound place) = place

abbrev pub value_fault : Scopes → HandlerValue → Option Fault
value_fault scopes (handled.State s) = state_fault s
value_fault scopes (handled.Name n) = name_of_condition_fault scopes n
value_fault scopes (handled.SqlException place) = None
value_fault scopes (handled.SqlWarning place) = None
value_fault scopes (handled.NotFound place) = None

abbrev pub is_among : Option Handles → List Handles → Bool
is_among None before = false
is_among (Some h) before = list_any (same_value h) before

abbrev pub more_values : Option Handles → List Handles → List Handles
more_values None before = before
more_values (Some h) before = h ∷ before

-- the values of all handlers of a block, in order: none stands twice
abbrev pub values_fault : Scopes → List Handles → List HandlerValue → List (Option Fault)
values_fault scopes before [] = []
values_fault scopes before (v ∷ vs) = earlier (value_fault scopes v) (breaks_if (is_among (handles scopes v) before) rule.ConditionValueRepeated (value_place v))
    ∷ values_fault scopes (more_values (handles scopes v) before) vs

-- ---- FOR

-- the column that an item names, if it is a name by itself
abbrev pub last_name : Identifier → Option Identifier → Spelling
last_name first None = first.name
last_name first (Some second) = second.name

abbrev pub column_named : Target → Option (Meaning Variable (Option SqlType)) → Option (Spelling × Option SqlType)
column_named t None = None
column_named t (Some (lookup.Column i kind)) = Some (last_name t.first t.second, kind)
column_named t (Some (lookup.Variable v)) = None

abbrev pub item_column : CheckerScope → Expr-F Expr Pick ChainLink Select When → Option (Spelling × Option SqlType)
item_column checker_scope (expr_layers.Name t) = column_named t (name_in checker_scope checker_scope.row t)
item_column checker_scope e = None

abbrev pub pick_column : CheckerScope → Pick-F Expr Pick ChainLink Select When → Option (Spelling × Option SqlType)
pick_column checker_scope (expr_layers.All place) = None
pick_column checker_scope (expr_layers.Expr e alias) = item_column checker_scope (out-Expr e)
pick_column checker_scope (expr_layers.CountRows place alias) = None
pick_column checker_scope (expr_layers.Aggregate place function argument alias) = None

-- an item of FOR, with the column that it names
pub record ForItem : Type 0 where
  pub pick : PickChecked
  pub column : Option (Spelling × Option SqlType)

abbrev pub for_item : CheckerScope → Pick → ForItem
for_item checker_scope p = record { pick = check_pick p checker_scope; column = pick_column checker_scope (out-Pick p) }

-- the name of an item: its alias, or else that of its column
abbrev pub own_name : Option Spelling → Option (Spelling × Option SqlType) → Option Spelling
own_name (Some alias) column = Some alias
own_name None None = None
own_name None (Some c) = Some c.0

abbrev pub name_of_item : ForItem → Option Spelling
name_of_item i = own_name i.pick.alias i.column

-- a column has the column's type, another number NUMERIC(18, s) and another text VARCHAR(4000)
abbrev pub wide : Family → ℕ → SqlType
wide Numbers s = types.Numeric 18 s
wide Texts s = types.VarChar 4000

abbrev pub wide_type : Option Shape → Option SqlType
wide_type None = None
wide_type (Some (Value t)) = Some (wide (family_of t.kind) t.scale)
wide_type (Some Untyped) = None
wide_type (Some shape.Condition) = None

abbrev pub item_type : Option (Spelling × Option SqlType) → Option Shape → Option SqlType
item_type (Some c) s = c.1
item_type None s = wide_type s

abbrev pub type_of_item : ForItem → Option SqlType
type_of_item i = item_type i.column (as_value i.pick.checked).shape

-- the variables of FOR, each name once; an item without a name has none
abbrev pub with_columns : List (Spelling × Variable) → Columns → List (Spelling × Variable)
with_columns before [] = before
with_columns before (c ∷ columns) = with_columns (declared_once before c.0 (local_variable c.1)) columns

abbrev pub with_named : List (Spelling × Variable) → Option Spelling → Option SqlType → List (Spelling × Variable)
with_named before None kind = before
with_named before (Some n) kind = declared_once before n (local_variable kind)

abbrev pub with_item : Columns → List (Spelling × Variable) → ForItem → List (Spelling × Variable)
with_item columns before i = if is_all i.pick.form then with_columns before columns else with_named before (name_of_item i) (type_of_item i)

abbrev pub for_variables : Columns → List (Spelling × Variable) → List ForItem → List (Spelling × Variable)
for_variables columns before [] = before
for_variables columns before (i ∷ others) = for_variables columns (with_item columns before i) others

-- an item needs a name that no item before it has; that goes before the sort of the item
abbrev pub named_fault : List (Spelling × Variable) → Place → Option Spelling → Option Fault
named_fault before place None = breaks rule.ItemNeedsName place
named_fault before place (Some n) = breaks_if (is_some (named n before)) rule.ItemNeedsName place

abbrev pub unless_broken : Option Fault → Checked → Option Fault
unless_broken None f = (as_value f).fault
unless_broken (Some fault) f = earlier (Some fault) f.fault

abbrev pub item_of_for : List (Spelling × Variable) → ForItem → Option Fault
item_of_for before i = if is_all i.pick.form then None else unless_broken (named_fault before i.pick.checked.place (name_of_item i)) i.pick.checked

abbrev pub for_items : Columns → List (Spelling × Variable) → List ForItem → List (Option Fault)
for_items columns before [] = []
for_items columns before (i ∷ others) = item_of_for before i ∷ for_items columns (with_item columns before i) others

-- the items of the query of FOR, on the rows of its table
abbrev pub items_in : CheckerScope → Select → List ForItem
items_in checker_scope select = let s = out-Select select in let on = on_row checker_scope (row_of checker_scope s.table s.alias) in map (for_item on) (several s.picks)

-- the faults beside those of the items: no set function stands in FOR
abbrev pub for_query_fault : QueryChecked → Option Fault
for_query_fault q = first_of (misplaced_set true (first_set q.picks) ∷ table_fault q.table q.columns ∷ test_fault q.test ∷ [])

abbrev pub for_fault : SymbolTable → QueryChecked → List ForItem → Option Order → Option Fault
for_fault symbols q items order = first_of (first_of (for_items (columns_known q.columns) [] items) ∷ for_query_fault q ∷ order_fault symbols q.table order ∷ [])

abbrev pub for_cursors : QueryChecked → Option ForCursor → List (Spelling × Cursor)
for_cursors q None = []
for_cursors q (Some cursor) = (cursor.name.name, cursor_on q (not cursor.insensitive) true) ∷ []

abbrev pub for_scope : Option Spelling → Identifier → QueryChecked → List ForItem → Option ForCursor → Scope Variable DeclaredCondition Cursor
for_scope label name q items cursor = scope.For label name.name (record { variables = for_variables (columns_known q.columns) [] items; conditions = []; cursors = for_cursors q cursor })

-- the head of FOR, and the scope of its statements
abbrev pub head_fault : CheckerScope → ForHead → Option Fault
head_fault checker_scope head = let q = checked_query checker_scope head.query in for_fault checker_scope.symbols q (items_in checker_scope head.query.query) head.query.order

abbrev pub head_scope : CheckerScope → Option Spelling → ForHead → Scope Variable DeclaredCondition Cursor
head_scope checker_scope label head = for_scope label head.name (checked_query checker_scope head.query) (items_in checker_scope head.query.query) head.cursor

-- ---- statements; the parts of a layer are their first faults where they stand

abbrev pub Part : Type 0
Part = Context → Option Fault

-- a block with the name of its label
abbrev pub BlockPart : Type 0
BlockPart = Option Spelling → Part

-- a test and the fault of the statements after it
abbrev pub BranchPart : Type 0
BranchPart = Context → (Checked × Option Fault)

-- the values of a handler, its UNDO where that isn't in an ATOMIC block, and its action
pub record HandlerPart : Type 0 where
  pub values : List HandlerValue
  pub own : Bool → Option Fault
  pub action : Part

abbrev pub all : Context → List Part → Option Fault
all c parts = first_of (map (λ p. p c) parts)

abbrev pub test_part : CheckerScope → Expr → Option Fault
test_part checker_scope e = (as_condition (checked checker_scope e)).fault

abbrev pub in_loop : Option Spelling → Context → Context
in_loop label c = inside c (scope.Loop label)

abbrev pub undo_fault : Place → HandlerKind → Bool → Option Fault
undo_fault place Continue atomic = None
undo_fault place Exit atomic = None
undo_fault place Undo atomic = breaks_if (not atomic) rule.UndoNeedsAtomic place

abbrev pub all_values : List HandlerPart → List HandlerValue
all_values [] = []
all_values (h ∷ hs) = h.values ++ all_values hs

-- the faults of a block's own list, and of the actions, which see no label from outside
abbrev pub handlers_fault : Context → Bool → List HandlerPart → List (Option Fault)
handlers_fault c atomic [] = []
handlers_fault c atomic (h ∷ hs) = earlier (h.own atomic) (h.action (inside c scope.Action)) ∷ handlers_fault c atomic hs

-- what a block declares itself: the first fault, and what stands declared after it
abbrev pub opened : Option Spelling → CheckerScope → CheckerScope
opened label checker_scope = in_scopes checker_scope (scope.Compound label undeclared ∷ checker_scope.scopes)

abbrev pub declared_checker_scope : CheckerScope → List Declaration → CheckerScope
declared_checker_scope checker_scope xs = in_scopes checker_scope (declared_by checker_scope.scopes xs)

abbrev pub declared_fault : Option Spelling → CheckerScope → List Declaration → List CursorDeclaration → Option Fault
declared_fault label checker_scope xs cursors =
    first_of (repeated rule.DeclarationRepeated (variable_names xs) ∷ repeated rule.DeclarationRepeated (condition_names xs)
    ∷ repeated rule.DeclarationRepeated (map (λ x. x.name) cursors) ∷ first_of (declarations_fault (opened label checker_scope) xs)
    ∷ first_of (cursors_fault (declared_checker_scope (opened label checker_scope) xs) cursors) ∷ [])

abbrev pub declared_scopes : Option Spelling → CheckerScope → List Declaration → List CursorDeclaration → Scopes
declared_scopes label checker_scope xs cursors = with_cursors (declared_checker_scope (opened label checker_scope) xs) cursors

abbrev pub within_scopes : Context → Scopes → Context
within_scopes c scopes = record c { checker_scope = in_scopes c.checker_scope scopes }

-- the faults of the values of a block's handlers, of its handlers and of its statements
abbrev pub body_fault : Context → Bool → List HandlerPart → List Part → Option Fault
body_fault c atomic handlers statements = first_of (first_of (values_fault c.checker_scope.scopes [] (all_values handlers)) ∷ first_of (handlers_fault c atomic handlers) ∷ all c statements ∷ [])

abbrev pub compound_fault : Option Spelling → Context → Bool → List Declaration → List CursorDeclaration → List HandlerPart → List Part → Option Fault
compound_fault label c atomic xs cursors handlers statements = earlier (declared_fault label c.checker_scope xs cursors)
    (body_fault (within_scopes c (declared_scopes label c.checker_scope xs cursors)) atomic handlers statements)

abbrev pub block_layer : Block-F BlockPart Part BranchPart HandlerPart → BlockPart
block_layer (layers.Compound place atomic xs cursors handlers statements) label c = compound_fault label c atomic xs cursors handlers statements
block_layer (layers.Loop place statements) label c = all (in_loop label c) (several statements)
block_layer (layers.While place test statements) label c = earlier (test_part c.checker_scope test) (all (in_loop label c) (several statements))
block_layer (layers.Repeat place statements until) label c = earlier (all (in_loop label c) (several statements)) (test_part c.checker_scope until)
block_layer (layers.For place head statements) label c = earlier (head_fault c.checker_scope head) (all (inside c (head_scope c.checker_scope label head)) (several statements))

-- a searched CASE or an IF: each test is a condition
abbrev pub searched : Context → List BranchPart → List (Option Fault)
searched c [] = []
searched c (b ∷ bs) = earlier (as_condition (b c).0).fault (b c).1 ∷ searched c bs

-- a simple CASE: its operand goes with each WHEN by itself
abbrev pub simple : Context → Checked → List BranchPart → List (Option Fault)
simple c operand [] = []
simple c operand (b ∷ bs) = earlier (simple_test operand (b c).0).fault (b c).1 ∷ simple c operand bs

abbrev pub case_branches : Context → Option Expr → List BranchPart → List (Option Fault)
case_branches c None bs = searched c bs
case_branches c (Some e) bs = let operand = as_value (checked c.checker_scope e) in operand.fault ∷ simple c operand bs

abbrev pub statement_layer : Statement-F BlockPart Part BranchPart HandlerPart → Part
statement_layer (layers.Block label block) c = earlier (label_of c.checker_scope.scopes label) (block (label_name label) c)
statement_layer (layers.If place branches otherwise) c = earlier (first_of (searched c (several branches))) (all c otherwise)
statement_layer (layers.Case place operand branches otherwise) c = earlier (first_of (case_branches c operand (several branches))) (all c otherwise)
statement_layer (layers.Simple simple) c = simple_fault c simple

abbrev pub branch_layer : Branch-F BlockPart Part BranchPart HandlerPart → BranchPart
branch_layer branch c = (checked c.checker_scope branch.test, all c (several branch.statements))

abbrev pub handler_layer : Handler-F BlockPart Part BranchPart HandlerPart → HandlerPart
handler_layer h = record { values = several h.values; own = undo_fault h.«at» h.kind; action = h.action }

-- the first fault of a statement, and what a block, a branch and a handler are where they stand
unfoldable pub statement_fault : Statement → Part
statement_fault = fold-Statement BlockPart Part BranchPart HandlerPart block_layer statement_layer branch_layer handler_layer

unfoldable pub block_fault : Block → BlockPart
block_fault = fold-Block BlockPart Part BranchPart HandlerPart block_layer statement_layer branch_layer handler_layer

unfoldable pub branch_part : Branch → BranchPart
branch_part = fold-Branch BlockPart Part BranchPart HandlerPart block_layer statement_layer branch_layer handler_layer

unfoldable pub handler_part : Handler → HandlerPart
handler_part = fold-Handler BlockPart Part BranchPart HandlerPart block_layer statement_layer branch_layer handler_layer
