-- The referents that stand in a resolved expression or query, in the order of the source.
use Rattle.std.specs.Prelude.{List, [], ◌∷◌, ◌++◌}
use Rattle.psm_resolved.specs.declared.expr.ResolvedExpr.{ResolvedExpr}
use Rattle.psm_resolved.specs.declared.expr.ResolvedExpr.TheOpen.{ResolvedExpr-F, ResolvedItems-F, ResolvedItem-F, ResolvedOperation-F, ResolvedQuery-F, ResolvedWhen-F}
use Rattle.psm_resolved.specs.declared.expr.ResolvedExpr.TheOpen as layers
use Rattle.psm_resolved.specs.declared.expr.ResolvedExpr.TheFolds.{fold-ResolvedExpr, fold-ResolvedItems, fold-ResolvedItem, fold-ResolvedOperation, fold-ResolvedQuery, fold-ResolvedWhen}
use Rattle.psm_resolved.specs.declared.expr.ResolvedItems.{ResolvedItems}
use Rattle.psm_resolved.specs.declared.expr.ResolvedItem.{ResolvedItem}
use Rattle.psm_resolved.specs.declared.expr.ResolvedOperation.{ResolvedOperation}
use Rattle.psm_resolved.specs.declared.expr.ResolvedQuery.{ResolvedQuery}
use Rattle.psm_resolved.specs.declared.expr.ResolvedWhen.{ResolvedWhen}
use Rattle.psm_names.specs.Referents.{Referent, Null, Column, Variable, Table, Function, together, in_several, perhaps}

abbrev pub R : Type 0
R = List Referent

abbrev pub expr_layer : ResolvedExpr-F R R R R R R → R
expr_layer layers.Null = Null ∷ []
expr_layer (layers.Number n) = []
expr_layer (layers.Text t) = []
expr_layer (layers.Column i) = Column i ∷ []
expr_layer (layers.Variable i) = Variable i ∷ []
expr_layer (layers.LogicalOperator j operands) = in_several operands
expr_layer (layers.Not condition) = condition
expr_layer (layers.Compare operator left right) = left ++ right
expr_layer (layers.IsNull negated value) = value
expr_layer (layers.Between negated value low high) = value ++ (low ++ high)
expr_layer (layers.In negated value list) = value ++ in_several list
expr_layer (layers.Like negated value pattern escape) = value ++ (pattern ++ perhaps escape)
expr_layer (layers.OperatorChain first chain_links) = first ++ together chain_links
expr_layer (layers.Negated e) = e
expr_layer (layers.Call function arguments) = Function function ∷ together arguments
expr_layer (layers.Scalar query) = query
expr_layer (layers.Exists query) = query
expr_layer (layers.Case operand whens otherwise scale) = perhaps operand ++ (in_several whens ++ perhaps otherwise)
expr_layer (layers.Coalesce values scale) = in_several values
expr_layer (layers.Cast source to) = source
expr_layer (layers.NullIf left right) = left ++ right
expr_layer (layers.Function function argument) = argument
expr_layer (layers.Position part whole) = part ++ whole
expr_layer (layers.Substring text from length) = text ++ (from ++ perhaps length)
expr_layer (layers.Trim side text) = text

abbrev pub items_layer : ResolvedItems-F R R R R R R → R
items_layer (layers.Rows es) = together es
items_layer (layers.Sets sets) = together sets

abbrev pub item_layer : ResolvedItem-F R R R R R R → R
item_layer i = perhaps i.operand

abbrev pub chain_link_layer : ResolvedOperation-F R R R R R R → R
chain_link_layer l = l.operand

abbrev pub query_layer : ResolvedQuery-F R R R R R R → R
query_layer q = q.items ++ Table q.table ∷ perhaps q.test

abbrev pub when_layer : ResolvedWhen-F R R R R R R → R
when_layer w = w.test ++ w.result

abbrev pub expr_referents : ResolvedExpr → R
expr_referents = fold-ResolvedExpr R R R R R R expr_layer items_layer item_layer chain_link_layer query_layer when_layer

abbrev pub items_referents : ResolvedItems → R
items_referents = fold-ResolvedItems R R R R R R expr_layer items_layer item_layer chain_link_layer query_layer when_layer

abbrev pub item_referents : ResolvedItem → R
item_referents = fold-ResolvedItem R R R R R R expr_layer items_layer item_layer chain_link_layer query_layer when_layer

abbrev pub chain_link_referents : ResolvedOperation → R
chain_link_referents = fold-ResolvedOperation R R R R R R expr_layer items_layer item_layer chain_link_layer query_layer when_layer

abbrev pub query_referents : ResolvedQuery → R
query_referents = fold-ResolvedQuery R R R R R R expr_layer items_layer item_layer chain_link_layer query_layer when_layer

abbrev pub when_referents : ResolvedWhen → R
when_referents = fold-ResolvedWhen R R R R R R expr_layer items_layer item_layer chain_link_layer query_layer when_layer
