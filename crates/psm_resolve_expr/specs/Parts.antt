-- What is made of the parts of an expression, as it is put together.
use Rattle.std.specs.Prelude.{ℕ, false, Option, None, List, [], ◌∷◌, ◌++◌, map}
use Rattle.psm_list.specs.Several.{Several, several_map}
use Rattle.psm_rules.specs.declared.shape.Shape.{Shape}
use Rattle.psm_resolved.specs.declared.expr.ResolvedExpr.{ResolvedExpr}
use Rattle.psm_resolved.specs.declared.expr.ResolvedExpr.TheVariants as exprs
use Rattle.psm_resolved.specs.declared.expr.ResolvedItem.{ResolvedItem}
use Rattle.psm_resolved.specs.declared.expr.ResolvedItems.{ResolvedItems}
use Rattle.psm_resolved.specs.declared.expr.ResolvedItems.TheVariants as items
use Rattle.psm_resolved.specs.declared.expr.ResolvedQuery.{roll-ResolvedQuery}
use Rattle.psm_resolve_expr.specs.declared.resolved.Resolved.{Resolved}
use Rattle.psm_resolve_expr.specs.declared.resolved.ShapedQuery.{ShapedQuery}
use Rattle.psm_resolve_expr.specs.declared.parts.Arguments.{Arguments}
use Rattle.psm_resolve_expr.specs.declared.parts.Branch.{Branch}
use Rattle.psm_resolve_expr.specs.declared.parts.Branches.{Branches}
use Rattle.psm_resolve_expr.specs.declared.parts.Operands.{Operands}
use Rattle.psm_rules.specs.Shapes.{kind_of}
use Rattle.psm_resolve_expr.specs.Resolved.{ShapedPick, Values, OfAll, joined_in, scale_of_result, shape_of_result}
use Rattle.psm_resolve_expr.specs.Exprs.{expr_in, optional_in, shapes_of_else, when_of}

-- values of one list, and the type of the result that one of them is
abbrev pub operands_of : Several Resolved → Operands
operands_of ms = record { exprs = several_map expr_in ms; result = joined_in None (map (λ m. m.shape) (ms.first ∷ ms.rest)) }

-- arguments, and the kinds by which a function is chosen
abbrev pub arguments_of : List Resolved → Arguments
arguments_of ms = record { exprs = map expr_in ms; kinds = map (λ m. kind_of m.shape) ms }

-- branches of CASE, and the type of their result
abbrev pub branch_of : (Resolved × Resolved) → Branch
branch_of w = record { when = when_of w; shape = w.1.shape }

abbrev pub branches_of : Several (Resolved × Resolved) → Branches
branches_of ws = record { whens = several_map when_of ws; result = joined_in None (map (λ w. w.1.shape) (ws.first ∷ ws.rest)) }

abbrev pub case_in : Option Resolved → Branches → Option Resolved → Resolved
case_in operand branches otherwise = let result = joined_in branches.result (shapes_of_else otherwise) in record {
  expr = exprs.Case (optional_in operand) branches.whens (optional_in otherwise) (scale_of_result result);
  shape = shape_of_result result;
}

-- ---- items of a query so far: values on each row, and set functions of all rows

pub record Picked : Type 0 where
  pub values : List ResolvedExpr
  pub shapes : List Shape
  pub sets : List ResolvedItem
  pub set_shapes : List Shape

abbrev pub none_picked : Picked
none_picked = record { values = []; shapes = []; sets = []; set_shapes = [] }

abbrev pub with_pick : Picked → ShapedPick → Picked
with_pick p (Values resolved) = record p { values = p.values ++ map expr_in resolved; shapes = p.shapes ++ map (λ m. m.shape) resolved }
with_pick p (OfAll item shape) = record p { sets = p.sets ++ item ∷ []; set_shapes = p.set_shapes ++ shape ∷ [] }

abbrev pub with_picks : Picked → List ShapedPick → Picked
with_picks p [] = p
with_picks p (pick ∷ picks) = with_picks (with_pick p pick) picks

-- they are set functions where any of them is
abbrev pub items_in : List ResolvedExpr → List ResolvedItem → ResolvedItems
items_in values [] = items.Rows values
items_in values (s ∷ ss) = items.Sets (s ∷ ss)

abbrev pub shapes_in : List Shape → List Shape → List ResolvedItem → List Shape
shapes_in shapes set_shapes [] = shapes
shapes_in shapes set_shapes (s ∷ ss) = set_shapes

abbrev pub query_in : ℕ → Picked → Option Resolved → ShapedQuery
query_in table p test = record {
  query = roll-ResolvedQuery (record { table = table; downward = false; items = items_in p.values p.sets; test = optional_in test });
  shapes = shapes_in p.shapes p.set_shapes p.sets;
}
