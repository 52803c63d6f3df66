-- Statements, blocks and declarations whose places are forgotten.
use Rattle.std.specs.Prelude.{map, option_map}
use Rattle.psm_list.specs.Several.{several_map}
use Rattle.psm_tree.specs.declared.statement.Statement.{Statement, roll-Statement}
use Rattle.psm_tree.specs.declared.statement.Block.{Block, roll-Block}
use Rattle.psm_tree.specs.declared.statement.Block.TheOpen.{Block-F, Statement-F, Branch-F, Handler-F}
use Rattle.psm_tree.specs.declared.statement.Block.TheOpen as layers
use Rattle.psm_tree.specs.declared.statement.Block.TheFolds.{fold-Block, fold-Statement, fold-Branch, fold-Handler}
use Rattle.psm_tree.specs.declared.statement.Label.{Label}
use Rattle.psm_tree.specs.declared.statement.Branch.{Branch, roll-Branch}
use Rattle.psm_tree.specs.declared.statement.ForCursor.{ForCursor}
use Rattle.psm_tree.specs.declared.statement.ForHead.{ForHead}
use Rattle.psm_tree.specs.declared.statement.OrderedQuery.{OrderedQuery}
use Rattle.psm_tree.specs.declared.statement.Order.{Order}
use Rattle.psm_tree.specs.declared.statement.OrderColumn.{OrderColumn}
use Rattle.psm_tree.specs.declared.statement.Declaration.{Declaration}
use Rattle.psm_tree.specs.declared.statement.Declaration.TheVariants as declarations
use Rattle.psm_tree.specs.declared.statement.CursorDeclaration.{CursorDeclaration}
use Rattle.psm_tree.specs.declared.statement.Handler.{Handler, roll-Handler}
use Rattle.psm_tree.specs.declared.statement.HandlerValue.{HandlerValue}
use Rattle.psm_tree.specs.declared.statement.HandlerValue.TheVariants as handled
use Rattle.psm_tree.specs.declared.statement.Condition.{Condition}
use Rattle.psm_tree.specs.declared.statement.Condition.TheVariants as signals
use Rattle.psm_tree.specs.declared.statement.Signalled.{Signalled}
use Rattle.psm_tree.specs.declared.statement.StatementInformation.{StatementInformation}
use Rattle.psm_tree.specs.declared.statement.ConditionInformation.{ConditionInformation}
use Rattle.psm_tree.specs.declared.statement.ConditionNumber.{ConditionNumber}
use Rattle.psm_tree.specs.declared.statement.ConditionNumber.TheVariants as numbers
use Rattle.psm_tree.specs.declared.statement.Diagnostics.{Diagnostics}
use Rattle.psm_tree.specs.declared.statement.Diagnostics.TheVariants as diagnostics
use Rattle.psm_tree.specs.declared.statement.Values.{Values}
use Rattle.psm_tree.specs.declared.statement.InsertSource.{InsertSource}
use Rattle.psm_tree.specs.declared.statement.InsertSource.TheVariants as inserted
use Rattle.psm_tree.specs.declared.statement.Assignment.{Assignment}
use Rattle.psm_tree.specs.declared.statement.Where.{Where}
use Rattle.psm_tree.specs.declared.statement.Where.TheVariants as wheres
use Rattle.psm_tree.specs.declared.statement.Simple.{Simple}
use Rattle.psm_tree.specs.declared.statement.Simple.TheVariants as simples
use Rattle.psm_print.specs.WithoutPositions.{origin}
use Rattle.psm_print.specs.ExprWithoutPositions.{name_without_positions, target_without_positions, names_without_positions, targets_without_positions, type_without_positions, state_without_positions, expr_without_positions, select_without_positions}

-- ---- parts of statements

abbrev pub order_column_without_positions : OrderColumn → OrderColumn
order_column_without_positions c = record { column = name_without_positions c.column; descending = c.descending }

abbrev pub order_without_positions : Order → Order
order_without_positions order = record { place = origin; columns = several_map order_column_without_positions order.columns }

abbrev pub ordered_query_without_positions : OrderedQuery → OrderedQuery
ordered_query_without_positions q = record { query = select_without_positions q.query; order = option_map order_without_positions q.order }

abbrev pub condition_without_positions : Condition → Condition
condition_without_positions (signals.Name name) = signals.Name (name_without_positions name)
condition_without_positions (signals.State state) = signals.State (state_without_positions state)

abbrev pub signalled_without_positions : Signalled → Signalled
signalled_without_positions s = record { condition = condition_without_positions s.condition; message = option_map expr_without_positions s.message }

abbrev pub where_without_positions : Where → Where
where_without_positions (wheres.Condition condition) = wheres.Condition (expr_without_positions condition)
where_without_positions (wheres.Current cursor) = wheres.Current (name_without_positions cursor)

abbrev pub values_without_positions : Values → Values
values_without_positions values = record { place = origin; values = several_map expr_without_positions values.values }

abbrev pub insert_source_without_positions : InsertSource → InsertSource
insert_source_without_positions (inserted.Values rows) = inserted.Values (several_map values_without_positions rows)
insert_source_without_positions (inserted.Query query) = inserted.Query (select_without_positions query)

abbrev pub assignment_without_positions : Assignment → Assignment
assignment_without_positions a = record { column = name_without_positions a.column; source = expr_without_positions a.source }

-- ---- GET DIAGNOSTICS

abbrev pub statement_info_without_positions : StatementInformation → StatementInformation
statement_info_without_positions i = record { target = target_without_positions i.target; place = origin; item = i.item }

abbrev pub condition_info_without_positions : ConditionInformation → ConditionInformation
condition_info_without_positions i = record { target = target_without_positions i.target; place = origin; item = i.item }

abbrev pub condition_number_without_positions : ConditionNumber → ConditionNumber
condition_number_without_positions (numbers.Number place number) = numbers.Number origin number
condition_number_without_positions (numbers.Target target) = numbers.Target (target_without_positions target)

abbrev pub diagnostics_without_positions : Diagnostics → Diagnostics
diagnostics_without_positions (diagnostics.Statement items) = diagnostics.Statement (several_map statement_info_without_positions items)
diagnostics_without_positions (diagnostics.Condition number items) = diagnostics.Condition (condition_number_without_positions number) (several_map condition_info_without_positions items)

-- ---- simple statements

abbrev pub simple_without_positions : Simple → Simple
simple_without_positions (simples.Set place target source) = simples.Set origin (target_without_positions target) (expr_without_positions source)
simple_without_positions (simples.Call place procedure arguments) = simples.Call origin (name_without_positions procedure) (map expr_without_positions arguments)
simple_without_positions (simples.Return place source) = simples.Return origin (expr_without_positions source)
simple_without_positions (simples.Leave place label) = simples.Leave origin (name_without_positions label)
simple_without_positions (simples.Iterate place label) = simples.Iterate origin (name_without_positions label)
simple_without_positions (simples.Signal place signalled) = simples.Signal origin (signalled_without_positions signalled)
simple_without_positions (simples.Resignal place signalled) = simples.Resignal origin (option_map signalled_without_positions signalled)
simple_without_positions (simples.GetDiagnostics place which diagnostics) = simples.GetDiagnostics origin which (diagnostics_without_positions diagnostics)
simple_without_positions (simples.SelectInto query targets) = simples.SelectInto (select_without_positions query) (targets_without_positions targets)
simple_without_positions (simples.Insert place table columns source) = simples.Insert origin (name_without_positions table) (option_map names_without_positions columns) (insert_source_without_positions source)
simple_without_positions (simples.Update place table assignments which) = simples.Update origin (name_without_positions table) (several_map assignment_without_positions assignments) (option_map where_without_positions which)
simple_without_positions (simples.Delete place table which) = simples.Delete origin (name_without_positions table) (option_map where_without_positions which)
simple_without_positions (simples.Open place cursor) = simples.Open origin (name_without_positions cursor)
simple_without_positions (simples.Fetch place cursor targets) = simples.Fetch origin (name_without_positions cursor) (targets_without_positions targets)
simple_without_positions (simples.Close place cursor) = simples.Close origin (name_without_positions cursor)

-- ---- declarations

abbrev pub declaration_without_positions : Declaration → Declaration
declaration_without_positions (declarations.Variables place names kind default) = declarations.Variables origin (names_without_positions names) (type_without_positions kind) (option_map expr_without_positions default)
declaration_without_positions (declarations.Condition place name state) = declarations.Condition origin (name_without_positions name) (option_map state_without_positions state)

abbrev pub cursor_without_positions : CursorDeclaration → CursorDeclaration
cursor_without_positions c = record { place = origin; name = name_without_positions c.name; insensitive = c.insensitive; query = ordered_query_without_positions c.query; updatability = c.updatability }

abbrev pub for_cursor_without_positions : ForCursor → ForCursor
for_cursor_without_positions c = record { name = name_without_positions c.name; insensitive = c.insensitive }

abbrev pub handler_value_without_positions : HandlerValue → HandlerValue
handler_value_without_positions (handled.State state) = handled.State (state_without_positions state)
handler_value_without_positions (handled.Name name) = handled.Name (name_without_positions name)
handler_value_without_positions (handled.SqlException place) = handled.SqlException origin
handler_value_without_positions (handled.SqlWarning place) = handled.SqlWarning origin
handler_value_without_positions (handled.NotFound place) = handled.NotFound origin

-- ---- statements that have statements

abbrev pub label_without_positions : Label → Label
label_without_positions label = record { start = name_without_positions label.start; end = option_map name_without_positions label.end }

abbrev pub for_head_without_positions : ForHead → ForHead
for_head_without_positions h = record { name = name_without_positions h.name; cursor = option_map for_cursor_without_positions h.cursor; query = ordered_query_without_positions h.query }

-- one layer of a block and of a statement; the statements in it have forgotten their places before it does
abbrev pub BlockLayer : Type 0
BlockLayer = Block-F Block Statement Branch Handler

abbrev pub block_layer_without_positions : BlockLayer → BlockLayer
block_layer_without_positions (layers.Compound place atomic declarations cursors handlers statements) = layers.Compound origin atomic (map declaration_without_positions declarations) (map cursor_without_positions cursors) handlers statements
block_layer_without_positions (layers.Loop place statements) = layers.Loop origin statements
block_layer_without_positions (layers.While place test statements) = layers.While origin (expr_without_positions test) statements
block_layer_without_positions (layers.Repeat place statements until) = layers.Repeat origin statements (expr_without_positions until)
block_layer_without_positions (layers.For place head statements) = layers.For origin (for_head_without_positions head) statements

abbrev pub Layer : Type 0
Layer = Statement-F Block Statement Branch Handler

abbrev pub layer_without_positions : Layer → Layer
layer_without_positions (layers.Block label block) = layers.Block (option_map label_without_positions label) block
layer_without_positions (layers.If place branches otherwise) = layers.If origin branches otherwise
layer_without_positions (layers.Case place operand branches otherwise) = layers.Case origin (option_map expr_without_positions operand) branches otherwise
layer_without_positions (layers.Simple simple) = layers.Simple (simple_without_positions simple)

abbrev pub block_step : BlockLayer → Block
block_step layer = roll-Block (block_layer_without_positions layer)

abbrev pub statement_step : Layer → Statement
statement_step layer = roll-Statement (layer_without_positions layer)

abbrev pub branch_step : Branch-F Block Statement Branch Handler → Branch
branch_step b = roll-Branch (record { test = expr_without_positions b.test; statements = b.statements })

abbrev pub handler_step : Handler-F Block Statement Branch Handler → Handler
handler_step h = roll-Handler (record { place = origin; «at» = origin; kind = h.kind; values = several_map handler_value_without_positions h.values; action = h.action })

abbrev pub block_without_positions : Block → Block
block_without_positions = fold-Block Block Statement Branch Handler block_step statement_step branch_step handler_step

abbrev pub statement_without_positions : Statement → Statement
statement_without_positions = fold-Statement Block Statement Branch Handler block_step statement_step branch_step handler_step

abbrev pub branch_without_positions : Branch → Branch
branch_without_positions = fold-Branch Block Statement Branch Handler block_step statement_step branch_step handler_step

abbrev pub handler_without_positions : Handler → Handler
handler_without_positions = fold-Handler Block Statement Branch Handler block_step statement_step branch_step handler_step
