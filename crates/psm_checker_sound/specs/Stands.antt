-- Where NULL stands in an expression, and the decimals of its numbers (ISO/IEC 9075:1992, 6.9 to 6.11).
use Rattle.std.specs.Prelude.{Bool, true, false, ◌&&◌, List, [], ◌∷◌, nat_le, Option, Some, None}
use Rattle.std.specs.List.{list_all}
use Rattle.psm_token.specs.declared.token.Placed.{Placed}
use Rattle.psm_token.specs.declared.token.Token.{Token}
use Rattle.psm_token.specs.declared.token.Token.TheVariants as tokens
use Rattle.psm_grammar.specs.Language.{Words}
use Rattle.psm_tree.specs.declared.expr.Expr.{Expr}
use Rattle.psm_tree.specs.declared.expr.Expr.TheOpen.{Expr-F, Pick-F, ChainLink-F, Select-F, When-F}
use Rattle.psm_tree.specs.declared.expr.Expr.TheOpen as layers
use Rattle.psm_tree.specs.declared.expr.Expr.TheFolds.{fold-Expr, fold-Pick, fold-ChainLink, fold-Select, fold-When}
use Rattle.psm_tree.specs.declared.expr.Pick.{Pick}
use Rattle.psm_tree.specs.declared.expr.ChainLink.{ChainLink}
use Rattle.psm_tree.specs.declared.expr.Select.{Select}
use Rattle.psm_tree.specs.declared.expr.When.{When}

-- NULL itself, or another expression, with whether NULL stands in it only as a result of CASE, a value of COALESCE, what CAST
-- changes or an argument, and each number has 18 decimals at most
abbrev pub Standing : Type 0
Standing = Option Bool

-- NULL is no operand
abbrev pub as_operand : Standing → Bool
as_operand None = false
as_operand (Some well) = well

abbrev pub as_source : Standing → Bool
as_source None = true
as_source (Some well) = well

abbrev pub are_operands : List Standing → Bool
are_operands parts = list_all as_operand parts

abbrev pub optional : Option Standing → List Standing
optional None = []
optional (Some s) = s ∷ []

abbrev pub may_be : (Standing → Bool) → Option Standing → Bool
may_be test None = true
may_be test (Some s) = test s

abbrev pub stands_layer : Expr-F Standing Bool Bool Bool Bool → Standing
stands_layer (layers.Null place) = None
stands_layer (layers.Number place number) = Some (nat_le number.scale 18)
stands_layer (layers.Text place text) = Some true
stands_layer (layers.Name target) = Some true
stands_layer (layers.LogicalOperator logical_operator operands) = Some (are_operands (operands.first ∷ operands.rest))
stands_layer (layers.Not place condition) = Some (as_operand condition)
stands_layer (layers.Compare operator left right) = Some (are_operands (left ∷ right ∷ []))
stands_layer (layers.IsNull negated value) = Some (as_operand value)
stands_layer (layers.Between negated value low high) = Some (are_operands (value ∷ low ∷ high ∷ []))
stands_layer (layers.In negated value list) = Some (are_operands (value ∷ list.first ∷ list.rest))
stands_layer (layers.Like negated value pattern escape) = Some (are_operands (value ∷ pattern ∷ optional escape))
stands_layer (layers.OperatorChain first chain_links) = Some (as_operand first && list_all (λ well. well) chain_links)
stands_layer (layers.Signed place sign operand) = Some (as_operand operand)
stands_layer (layers.Call function arguments) = Some (list_all as_source arguments)
stands_layer (layers.Parenthesized place expr) = Some (as_operand expr)
stands_layer (layers.Subquery place query) = Some query
stands_layer (layers.Exists place query) = Some query
stands_layer (layers.Case place operand whens otherwise) = Some (may_be as_operand operand && (list_all (λ well. well) (whens.first ∷ whens.rest) && may_be as_source otherwise))
stands_layer (layers.Cast place source to) = Some (as_source source)
stands_layer (layers.Coalesce place values) = Some (list_all as_source (values.first ∷ values.rest))
stands_layer (layers.NullIf place left right) = Some (are_operands (left ∷ right ∷ []))
stands_layer (layers.Function place function text) = Some (as_operand text)
stands_layer (layers.Position place part whole) = Some (are_operands (part ∷ whole ∷ []))
stands_layer (layers.Substring place text from length) = Some (are_operands (text ∷ from ∷ optional length))
stands_layer (layers.Trim place side text) = Some (as_operand text)

abbrev pub pick_stands_layer : Pick-F Standing Bool Bool Bool Bool → Bool
pick_stands_layer (layers.All place) = true
pick_stands_layer (layers.Expr expr alias) = as_operand expr
pick_stands_layer (layers.CountRows place alias) = true
pick_stands_layer (layers.Aggregate place function argument alias) = as_operand argument

abbrev pub chain_link_stands_layer : ChainLink-F Standing Bool Bool Bool Bool → Bool
chain_link_stands_layer chain_link = as_operand chain_link.operand

abbrev pub select_stands_layer : Select-F Standing Bool Bool Bool Bool → Bool
select_stands_layer select = list_all (λ well. well) (select.picks.first ∷ select.picks.rest) && may_be as_operand select.condition

abbrev pub when_stands_layer : When-F Standing Bool Bool Bool Bool → Bool
when_stands_layer when = as_operand when.test && as_source when.result

abbrev pub stands : Expr → Standing
stands = fold-Expr Standing Bool Bool Bool Bool stands_layer pick_stands_layer chain_link_stands_layer select_stands_layer when_stands_layer

abbrev pub pick_stands : Pick → Bool
pick_stands = fold-Pick Standing Bool Bool Bool Bool stands_layer pick_stands_layer chain_link_stands_layer select_stands_layer when_stands_layer

abbrev pub chain_link_stands : ChainLink → Bool
chain_link_stands = fold-ChainLink Standing Bool Bool Bool Bool stands_layer pick_stands_layer chain_link_stands_layer select_stands_layer when_stands_layer

abbrev pub select_stands : Select → Bool
select_stands = fold-Select Standing Bool Bool Bool Bool stands_layer pick_stands_layer chain_link_stands_layer select_stands_layer when_stands_layer

abbrev pub when_stands : When → Bool
when_stands = fold-When Standing Bool Bool Bool Bool stands_layer pick_stands_layer chain_link_stands_layer select_stands_layer when_stands_layer

-- ---- tokens

-- each number has 18 decimals at most
abbrev pub is_small : Token → Bool
is_small (tokens.Number n) = nat_le n.scale 18
is_small t = true

abbrev pub are_small : Words Placed → Bool
are_small w = list_all (λ t. is_small t.0.token) w
