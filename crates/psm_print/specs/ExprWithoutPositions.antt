-- Names, types, constants, expressions and queries whose places are forgotten: every place becomes one
-- place, and all else stays as it is.
use Rattle.std.specs.Prelude.{Option, option_map}
use Rattle.psm_list.specs.Several.{several_map}
use Rattle.psm_tree.specs.declared.name.Identifier.{Identifier}
use Rattle.psm_tree.specs.declared.name.Target.{Target}
use Rattle.psm_tree.specs.Names.{Names, Targets}
use Rattle.psm_tree.specs.declared.types.DataType.{DataType}
use Rattle.psm_tree.specs.declared.types.Constant.{Constant}
use Rattle.psm_tree.specs.declared.types.State.{State}
use Rattle.psm_tree.specs.declared.expr.Expr.{Expr, roll-Expr}
use Rattle.psm_tree.specs.declared.expr.Expr.TheOpen.{Expr-F, Pick-F, ChainLink-F, Select-F, When-F}
use Rattle.psm_tree.specs.declared.expr.Expr.TheOpen as layers
use Rattle.psm_tree.specs.declared.expr.Expr.TheFolds.{fold-Expr, fold-ChainLink, fold-When, fold-Select, fold-Pick}
use Rattle.psm_tree.specs.declared.expr.ChainLink.{ChainLink, roll-ChainLink}
use Rattle.psm_tree.specs.declared.expr.When.{When, roll-When}
use Rattle.psm_tree.specs.declared.expr.Select.{Select, roll-Select}
use Rattle.psm_tree.specs.declared.expr.Pick.{Pick}
use Rattle.psm_tree.specs.declared.expr.Pick.TheVariants as picked
use Rattle.psm_print.specs.WithoutPositions.{origin}

-- ---- names, types and constants

abbrev pub name_without_positions : Identifier → Identifier
name_without_positions name = record { place = origin; name = name.name }

abbrev pub target_without_positions : Target → Target
target_without_positions target = record { first = name_without_positions target.first; second = option_map name_without_positions target.second }

abbrev pub names_without_positions : Names → Names
names_without_positions = several_map name_without_positions

abbrev pub targets_without_positions : Targets → Targets
targets_without_positions = several_map target_without_positions

abbrev pub type_without_positions : DataType → DataType
type_without_positions kind = record { place = origin; form = kind.form }

abbrev pub constant_without_positions : Constant → Constant
constant_without_positions constant = record { place = origin; form = constant.form }

abbrev pub state_without_positions : State → State
state_without_positions state = record { place = origin; «at» = origin; text = state.text }

-- ---- expressions and queries

abbrev pub alias_without_positions : Option Identifier → Option Identifier
alias_without_positions alias = option_map name_without_positions alias

-- one layer of an expression; the trees in it have forgotten their places before it does
abbrev pub Layer : Type 0
Layer = Expr-F Expr Pick ChainLink Select When

abbrev pub layer_without_positions : Layer → Layer
layer_without_positions (layers.Null place) = layers.Null origin
layer_without_positions (layers.Number place value) = layers.Number origin value
layer_without_positions (layers.Text place value) = layers.Text origin value
layer_without_positions (layers.Name target) = layers.Name (target_without_positions target)
layer_without_positions (layers.LogicalOperator logical_operator operands) = layers.LogicalOperator logical_operator operands
layer_without_positions (layers.Not place condition) = layers.Not origin condition
layer_without_positions (layers.Compare operator left right) = layers.Compare operator left right
layer_without_positions (layers.IsNull negated value) = layers.IsNull negated value
layer_without_positions (layers.Between negated value low high) = layers.Between negated value low high
layer_without_positions (layers.In negated value list) = layers.In negated value list
layer_without_positions (layers.Like negated value pattern escape) = layers.Like negated value pattern escape
layer_without_positions (layers.OperatorChain first chain_links) = layers.OperatorChain first chain_links
layer_without_positions (layers.Signed place sign operand) = layers.Signed origin sign operand
layer_without_positions (layers.Call function arguments) = layers.Call (name_without_positions function) arguments
layer_without_positions (layers.Parenthesized place expr) = layers.Parenthesized origin expr
layer_without_positions (layers.Subquery place query) = layers.Subquery origin query
layer_without_positions (layers.Exists place query) = layers.Exists origin query
layer_without_positions (layers.Case place operand whens otherwise) = layers.Case origin operand whens otherwise
layer_without_positions (layers.Cast place source to) = layers.Cast origin source (type_without_positions to)
layer_without_positions (layers.Coalesce place values) = layers.Coalesce origin values
layer_without_positions (layers.NullIf place left right) = layers.NullIf origin left right
layer_without_positions (layers.Function place function argument) = layers.Function origin function argument
layer_without_positions (layers.Position place part whole) = layers.Position origin part whole
layer_without_positions (layers.Substring place text from length) = layers.Substring origin text from length
layer_without_positions (layers.Trim place side text) = layers.Trim origin side text

abbrev pub expr_step : Layer → Expr
expr_step layer = roll-Expr (layer_without_positions layer)

abbrev pub pick_step : Pick-F Expr Pick ChainLink Select When → Pick
pick_step (layers.All place) = picked.All origin
pick_step (layers.Expr expr alias) = picked.Expr expr (alias_without_positions alias)
pick_step (layers.CountRows place alias) = picked.CountRows origin (alias_without_positions alias)
pick_step (layers.Aggregate place function argument alias) = picked.Aggregate origin function argument (alias_without_positions alias)

abbrev pub chain_link_step : ChainLink-F Expr Pick ChainLink Select When → ChainLink
chain_link_step chain_link = roll-ChainLink chain_link

abbrev pub select_step : Select-F Expr Pick ChainLink Select When → Select
select_step select = roll-Select (record { place = origin; picks = select.picks; table = name_without_positions select.table; alias = alias_without_positions select.alias; condition = select.condition })

abbrev pub when_step : When-F Expr Pick ChainLink Select When → When
when_step when = roll-When when

abbrev pub expr_without_positions : Expr → Expr
expr_without_positions = fold-Expr Expr Pick ChainLink Select When expr_step pick_step chain_link_step select_step when_step

abbrev pub pick_without_positions : Pick → Pick
pick_without_positions = fold-Pick Expr Pick ChainLink Select When expr_step pick_step chain_link_step select_step when_step

abbrev pub chain_link_without_positions : ChainLink → ChainLink
chain_link_without_positions = fold-ChainLink Expr Pick ChainLink Select When expr_step pick_step chain_link_step select_step when_step

abbrev pub select_without_positions : Select → Select
select_without_positions = fold-Select Expr Pick ChainLink Select When expr_step pick_step chain_link_step select_step when_step

abbrev pub when_without_positions : When → When
when_without_positions = fold-When Expr Pick ChainLink Select When expr_step pick_step chain_link_step select_step when_step
