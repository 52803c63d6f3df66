-- The place of a part of a tree: that of the first token that spells it.
use Rattle.std.specs.Prelude.{Some, None}
use Rattle.psm_token.specs.declared.place.Place.{Place}
use Rattle.psm_tree.specs.declared.name.Target.{Target}
use Rattle.psm_tree.specs.declared.expr.Expr.{Expr}
use Rattle.psm_tree.specs.declared.expr.Expr.TheOpen.{Expr-F, Pick-F, ChainLink-F, Select-F, When-F}
use Rattle.psm_tree.specs.declared.expr.Expr.TheOpen as layers
use Rattle.psm_tree.specs.declared.expr.Expr.TheFolds.{fold-Expr, fold-Pick}
use Rattle.psm_tree.specs.declared.expr.Pick.{Pick}
use Rattle.psm_tree.specs.declared.expr.Select.{Select, out-Select}
use Rattle.psm_tree.specs.declared.statement.Statement.{Statement, out-Statement}
use Rattle.psm_tree.specs.declared.statement.Block.{Block, out-Block}
use Rattle.psm_tree.specs.declared.statement.Block.TheOpen.{Block-F, Statement-F}
use Rattle.psm_tree.specs.declared.statement.Block.TheOpen as parts
use Rattle.psm_tree.specs.declared.statement.Branch.{Branch}
use Rattle.psm_tree.specs.declared.statement.Handler.{Handler}
use Rattle.psm_tree.specs.declared.statement.OrderedQuery.{OrderedQuery}
use Rattle.psm_tree.specs.declared.statement.Declaration.{Declaration}
use Rattle.psm_tree.specs.declared.statement.Declaration.TheVariants as declarations
use Rattle.psm_tree.specs.declared.statement.HandlerValue.{HandlerValue}
use Rattle.psm_tree.specs.declared.statement.HandlerValue.TheVariants as handled
use Rattle.psm_tree.specs.declared.statement.Condition.{Condition}
use Rattle.psm_tree.specs.declared.statement.Condition.TheVariants as signals
use Rattle.psm_tree.specs.declared.statement.ConditionNumber.{ConditionNumber}
use Rattle.psm_tree.specs.declared.statement.ConditionNumber.TheVariants as numbers
use Rattle.psm_tree.specs.declared.statement.Simple.{Simple}
use Rattle.psm_tree.specs.declared.statement.Simple.TheVariants as simples
use Rattle.psm_tree.specs.declared.script.Argument.{Argument}
use Rattle.psm_tree.specs.declared.script.Argument.TheVariants as arguments
use Rattle.psm_tree.specs.declared.script.Command.{Command}
use Rattle.psm_tree.specs.declared.script.Command.TheVariants as commands

abbrev pub target_place : Target → Place
target_place target = target.first.place

-- ---- expressions and queries

-- one layer of an expression, the parts of which are their places
abbrev pub expr_layer_place : Expr-F Place Place Place Place Place → Place
expr_layer_place (layers.Null place) = place
expr_layer_place (layers.Number place value) = place
expr_layer_place (layers.Text place value) = place
expr_layer_place (layers.Name target) = target_place target
expr_layer_place (layers.LogicalOperator logical_operator operands) = operands.first
expr_layer_place (layers.Not place condition) = place
expr_layer_place (layers.Compare operator left right) = left
expr_layer_place (layers.IsNull negated value) = value
expr_layer_place (layers.Between negated value low high) = value
expr_layer_place (layers.In negated value list) = value
expr_layer_place (layers.Like negated value pattern escape) = value
expr_layer_place (layers.OperatorChain first chain_links) = first
expr_layer_place (layers.Signed place sign operand) = place
expr_layer_place (layers.Call function arguments) = function.place
expr_layer_place (layers.Parenthesized place expr) = place
expr_layer_place (layers.Subquery place query) = place
expr_layer_place (layers.Exists place query) = place
expr_layer_place (layers.Case place operand whens otherwise) = place
expr_layer_place (layers.Cast place source to) = place
expr_layer_place (layers.Coalesce place values) = place
expr_layer_place (layers.NullIf place left right) = place
expr_layer_place (layers.Function place function argument) = place
expr_layer_place (layers.Position place part whole) = place
expr_layer_place (layers.Substring place text from length) = place
expr_layer_place (layers.Trim place side text) = place

abbrev pub pick_layer_place : Pick-F Place Place Place Place Place → Place
pick_layer_place (layers.All place) = place
pick_layer_place (layers.Expr expr alias) = expr
pick_layer_place (layers.CountRows place alias) = place
pick_layer_place (layers.Aggregate place function argument alias) = place

abbrev pub select_layer_place : Select-F Place Place Place Place Place → Place
select_layer_place select = select.place

-- No place is asked of what stands after an operator or after WHEN: its operand or test stands for it.
abbrev pub chain_link_layer_place : ChainLink-F Place Place Place Place Place → Place
chain_link_layer_place chain_link = chain_link.operand

abbrev pub when_layer_place : When-F Place Place Place Place Place → Place
when_layer_place when = when.test

abbrev pub expr_place : Expr → Place
expr_place = fold-Expr Place Place Place Place Place expr_layer_place pick_layer_place chain_link_layer_place select_layer_place when_layer_place

abbrev pub pick_place : Pick → Place
pick_place = fold-Pick Place Place Place Place Place expr_layer_place pick_layer_place chain_link_layer_place select_layer_place when_layer_place

abbrev pub select_place : Select → Place
select_place select = (out-Select select).place

abbrev pub ordered_query_place : OrderedQuery → Place
ordered_query_place query = select_place query.query

-- ---- statements

abbrev pub simple_place : Simple → Place
simple_place (simples.Set place target source) = place
simple_place (simples.Call place procedure arguments) = place
simple_place (simples.Return place source) = place
simple_place (simples.Leave place label) = place
simple_place (simples.Iterate place label) = place
simple_place (simples.Signal place signalled) = place
simple_place (simples.Resignal place signalled) = place
simple_place (simples.GetDiagnostics place which diagnostics) = place
simple_place (simples.SelectInto query targets) = select_place query
simple_place (simples.Insert place table columns source) = place
simple_place (simples.Update place table assignments which) = place
simple_place (simples.Delete place table which) = place
simple_place (simples.Open place cursor) = place
simple_place (simples.Fetch place cursor targets) = place
simple_place (simples.Close place cursor) = place

abbrev pub block_layer_place : Block-F Block Statement Branch Handler → Place
block_layer_place (parts.Compound place atomic declarations cursors handlers statements) = place
block_layer_place (parts.Loop place statements) = place
block_layer_place (parts.While place test statements) = place
block_layer_place (parts.Repeat place statements until) = place
block_layer_place (parts.For place head statements) = place

abbrev pub block_place : Block → Place
block_place block = block_layer_place (out-Block block)

-- a block begins with its label
abbrev pub statement_layer_place : Statement-F Block Statement Branch Handler → Place
statement_layer_place (parts.Block (Some label) block) = label.start.place
statement_layer_place (parts.Block None block) = block_place block
statement_layer_place (parts.If place branches otherwise) = place
statement_layer_place (parts.Case place operand branches otherwise) = place
statement_layer_place (parts.Simple simple) = simple_place simple

abbrev pub statement_place : Statement → Place
statement_place statement = statement_layer_place (out-Statement statement)

-- ---- parts of statements

abbrev pub declaration_place : Declaration → Place
declaration_place (declarations.Variables place names kind default) = place
declaration_place (declarations.Condition place name state) = place

abbrev pub handler_value_place : HandlerValue → Place
handler_value_place (handled.State state) = state.place
handler_value_place (handled.Name name) = name.place
handler_value_place (handled.SqlException place) = place
handler_value_place (handled.SqlWarning place) = place
handler_value_place (handled.NotFound place) = place

abbrev pub condition_place : Condition → Place
condition_place (signals.Name name) = name.place
condition_place (signals.State state) = state.place

abbrev pub condition_number_place : ConditionNumber → Place
condition_number_place (numbers.Number place number) = place
condition_number_place (numbers.Target target) = target_place target

-- ---- scripts

abbrev pub argument_place : Argument → Place
argument_place (arguments.Constant constant) = constant.place
argument_place (arguments.Placeholder place) = place

abbrev pub command_place : Command → Place
command_place (commands.Call place procedure arguments) = place
command_place (commands.Insert place table columns rows) = place
command_place (commands.Select query) = ordered_query_place query
command_place (commands.Commit place) = place
command_place (commands.Rollback place) = place
