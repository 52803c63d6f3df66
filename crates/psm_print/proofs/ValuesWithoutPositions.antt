-- What the parts of expressions, statements and blocks make, with its places forgotten.
use Rattle.std.proofs.Common.{map, option_map}
use Rattle.psm_list.specs.Several.{several_map}
use Rattle.psm_token.specs.declared.place.Place.{Place}
use Rattle.psm_tree.specs.Tests.{At}
use Rattle.psm_tree.specs.Parts.{Part, Enclosed, Arguments, ExistsRest, CaseRest, CastRest, CoalesceRest, NullIfRest, FunctionRest, PositionRest, SubstringRest, TrimRest, BeginRest, LoopRest, WhileRest, RepeatRest, ForRest, IfRest, CaseStatementRest, HandlerRest, BodyRest, DeclareRest, Inside, Value, Query, Cases, Statements, Branches, ForParts, HandlerParts, NamedRest, Variables, Condition, Cursor, Declared, Named, Handled, Body, V}
use Rattle.psm_tree.specs.ExprValues as exprs
use Rattle.psm_tree.specs.ExprValues.{Whens, From, Item, NameRest}
use Rattle.psm_print.specs.WithoutPositions.{origin}
use Rattle.psm_print.specs.ExprWithoutPositions.{name_without_positions, type_without_positions, state_without_positions, alias_without_positions, expr_without_positions, when_without_positions, select_without_positions}
use Rattle.psm_print.specs.StatementWithoutPositions.{ordered_query_without_positions, declaration_without_positions, cursor_without_positions, for_head_without_positions, handler_value_without_positions, statement_without_positions, branch_without_positions, handler_without_positions}

abbrev pub same : {A : Type 0} → A → A
same a = a

abbrev pub both : {A B : Type 0} → (A → A) → (B → B) → A × B → A × B
both f g p = (f p.0, g p.1)

abbrev pub all_three : {A B C : Type 0} → (A → A) → (B → B) → (C → C) → A × B × C → A × B × C
all_three f g h p = (f p.0, g p.1, h p.2)

abbrev pub place_without_positions : Place → Place
place_without_positions place = origin

abbrev pub at_without_positions : {A : Type 0} → At A → At A
at_without_positions x = record { place = origin; value = x.value }

-- ---- expressions and queries

abbrev pub test_without_positions : exprs.Test → exprs.Test
test_without_positions exprs.Nothing = exprs.Nothing
test_without_positions (exprs.Compare operator right) = exprs.Compare operator (expr_without_positions right)
test_without_positions (exprs.IsNull negated) = exprs.IsNull negated
test_without_positions (exprs.Between negated low high) = exprs.Between negated (expr_without_positions low) (expr_without_positions high)
test_without_positions (exprs.In negated list) = exprs.In negated (several_map expr_without_positions list)
test_without_positions (exprs.Like negated pattern escape) = exprs.Like negated (expr_without_positions pattern) (option_map expr_without_positions escape)

abbrev pub name_rest_without_positions : NameRest → NameRest
name_rest_without_positions exprs.Bare = exprs.Bare
name_rest_without_positions (exprs.Dotted second) = exprs.Dotted (name_without_positions second)
name_rest_without_positions (exprs.Called arguments) = exprs.Called (map expr_without_positions arguments)

abbrev pub inside_without_positions : Inside → Inside
inside_without_positions (Value expr) = Value (expr_without_positions expr)
inside_without_positions (Query query) = Query (select_without_positions query)

abbrev pub whens_without_positions : Whens → Whens
whens_without_positions w = record { whens = several_map when_without_positions w.whens; otherwise = option_map expr_without_positions w.otherwise }

abbrev pub cases_without_positions : Cases → Cases
cases_without_positions c = record { operand = option_map expr_without_positions c.operand; whens = several_map when_without_positions c.whens; otherwise = option_map expr_without_positions c.otherwise }

abbrev pub from_without_positions : From → From
from_without_positions f = record { table = name_without_positions f.table; alias = alias_without_positions f.alias; condition = option_map expr_without_positions f.condition }

abbrev pub item_without_positions : Item → Item
item_without_positions (exprs.Plain expr) = exprs.Plain (expr_without_positions expr)
item_without_positions (exprs.Rows place) = exprs.Rows origin
item_without_positions (exprs.Aggregate place function argument) = exprs.Aggregate origin function (expr_without_positions argument)

-- ---- statements

abbrev pub statements_without_positions : Statements → Statements
statements_without_positions = several_map statement_without_positions

abbrev pub branches_without_positions : Branches → Branches
branches_without_positions b = record { branches = several_map branch_without_positions b.branches; otherwise = map statement_without_positions b.otherwise }

abbrev pub for_parts_without_positions : ForParts → ForParts
for_parts_without_positions p = record { head = for_head_without_positions p.head; statements = statements_without_positions p.statements }

-- ---- declarations and blocks

abbrev pub handler_parts_without_positions : HandlerParts → HandlerParts
handler_parts_without_positions p = record { values = several_map handler_value_without_positions p.values; action = statement_without_positions p.action }

abbrev pub named_rest_without_positions : NamedRest → NamedRest
named_rest_without_positions (Variables others kind default) = Variables (map name_without_positions others) (type_without_positions kind) (option_map expr_without_positions default)
named_rest_without_positions (Condition state) = Condition (option_map state_without_positions state)
named_rest_without_positions (Cursor insensitive query updatability) = Cursor insensitive (ordered_query_without_positions query) updatability

abbrev pub declared_without_positions : Declared → Declared
declared_without_positions (Named name rest) = Named (name_without_positions name) (named_rest_without_positions rest)
declared_without_positions (Handled kind p) = Handled (at_without_positions kind) (handler_parts_without_positions p)

abbrev pub body_without_positions : Body → Body
body_without_positions b = record { declarations = map declaration_without_positions b.declarations; cursors = map cursor_without_positions b.cursors; handlers = map handler_without_positions b.handlers; statements = map statement_without_positions b.statements }

-- what the words of each part say
abbrev pub part_without_positions : (n : Part) → V n → V n
part_without_positions Enclosed = inside_without_positions
part_without_positions Arguments = map expr_without_positions
part_without_positions ExistsRest = select_without_positions
part_without_positions CaseRest = cases_without_positions
part_without_positions CastRest = both expr_without_positions type_without_positions
part_without_positions CoalesceRest = several_map expr_without_positions
part_without_positions NullIfRest = both expr_without_positions expr_without_positions
part_without_positions FunctionRest = expr_without_positions
part_without_positions PositionRest = both expr_without_positions expr_without_positions
part_without_positions SubstringRest = all_three expr_without_positions expr_without_positions (option_map expr_without_positions)
part_without_positions TrimRest = both same expr_without_positions
part_without_positions BeginRest = both same body_without_positions
part_without_positions LoopRest = statements_without_positions
part_without_positions WhileRest = both expr_without_positions statements_without_positions
part_without_positions RepeatRest = both statements_without_positions expr_without_positions
part_without_positions ForRest = for_parts_without_positions
part_without_positions IfRest = branches_without_positions
part_without_positions CaseStatementRest = both (option_map expr_without_positions) branches_without_positions
part_without_positions HandlerRest = handler_parts_without_positions
part_without_positions (BodyRest phase) = body_without_positions
part_without_positions (DeclareRest phase) = both declared_without_positions body_without_positions
