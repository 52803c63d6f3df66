-- The scale of a number and that of the shape that is known of it before (ISO/IEC 9075:1992, 6.1 and 6.11 to 6.13).
use Rattle.std.specs.Prelude.{◌≡◌, Bool, true, ◌&&◌, nat_lt, List, ◌∷◌, length, slice_get, Option, Some, None, IfSome, Ok}
use Rattle.std.specs.List.{list_all}
use Rattle.psm_num.specs.Num as num
use Rattle.psm_value.specs.declared.datum.Datum.{Datum}
use Rattle.psm_value.specs.declared.datum.Datum.TheVariants.{Num}
use Rattle.psm_value.specs.declared.sqltype.SqlType.{SqlType}
use Rattle.psm_exprcode.specs.declared.operand.Operand.{Operand}
use Rattle.psm_exprcode.specs.declared.operand.Operand.TheVariants as operands
use Rattle.psm_exprcode.specs.Evaluated.{Outcome}
use Rattle.psm_scope.specs.Lookup as lookup
use Rattle.psm_scope.specs.Lookup.{Meaning}
use Rattle.psm_scope.specs.declared.known.Variable.{Variable}
use Rattle.psm_rules.specs.declared.shape.Shape.{Shape}
use Rattle.psm_rules.specs.declared.shape.Shape.TheVariants.{Value}
use Rattle.psm_tree.specs.declared.name.Target.{Target}
use Rattle.psm_tree.specs.declared.expr.Expr.{Expr}
use Rattle.psm_tree.specs.declared.expr.Expr.TheOpen.{Expr-F, Pick-F, ChainLink-F, Select-F, When-F}
use Rattle.psm_tree.specs.declared.expr.Expr.TheOpen as layers
use Rattle.psm_tree.specs.declared.expr.Expr.TheFolds.{fold-Expr, fold-ChainLink, fold-When}
use Rattle.psm_tree.specs.declared.expr.ChainLink.{ChainLink}
use Rattle.psm_tree.specs.declared.expr.When.{When}
use Rattle.psm_resolve_expr.specs.ResolverScope.{ResolverScope, name_in}
use Rattle.psm_resolve_expr.specs.Resolved.{shape_of_type}

-- ---- values

-- a number has the scale of its shape; where the shape has none, there is no number
abbrev pub HasScale : Shape → num.Num → Type 0
HasScale (Value t) n = n.scale ≡ t.scale
HasScale _ n = ⊥

abbrev pub IsAtScale : Shape → Datum → Type 0
IsAtScale shape (Num n) = HasScale shape n
IsAtScale shape _ = Unit {0}

abbrev pub OperandAtScale : Shape → Operand → Type 0
OperandAtScale shape (operands.Value d) = IsAtScale shape d
OperandAtScale shape (operands.Truth t) = Unit {0}

-- if an expression evaluates to a number, the number has the scale of the expression's shape
abbrev pub ComesAtScale : Shape → Outcome → Type 0
ComesAtScale shape (Some (Ok x)) = OperandAtScale shape x
ComesAtScale shape _ = Unit {0}

-- ---- columns and variables

-- what a name means holds no number but of the scale of its declared type
abbrev pub HoldsAtScale : List Datum → List Datum → Option (Meaning Variable (Option SqlType)) → Type 0
HoldsAtScale row vars None = Unit {0}
HoldsAtScale row vars (Some (lookup.Column i t)) = IfSome (slice_get row i) (IsAtScale (shape_of_type t))
HoldsAtScale row vars (Some (lookup.Variable v)) = IfSome (slice_get vars v.slot) (IsAtScale (shape_of_type v.kind))

-- the columns and the variables that are seen at a place hold what they are declared for
abbrev pub HoldAsDeclared : ResolverScope → List Datum → List Datum → Type 0
HoldAsDeclared resolver_scope row vars = (target : Target) → HoldsAtScale row vars (name_in resolver_scope target)

-- ---- AND and OR

abbrev pub are_all : List Bool → Bool
are_all answers = list_all (λ answer. answer) answers

abbrev pub or_none : Option Bool → Bool
or_none None = true
or_none (Some answer) = answer

-- whether AND and OR stand between two conditions or more, wherever a value may be taken from one of them
abbrev pub joins_layer : Expr-F Bool (Unit {0}) Bool (Unit {0}) Bool → Bool
joins_layer (layers.LogicalOperator logical_operator operands) = nat_lt 0 (length operands.rest)
joins_layer (layers.OperatorChain first chain_links) = first && are_all chain_links
joins_layer (layers.Signed place sign operand) = operand
joins_layer (layers.Parenthesized place expr) = expr
joins_layer (layers.Case place operand whens otherwise) = are_all (whens.first ∷ whens.rest) && or_none otherwise
joins_layer (layers.Coalesce place values) = are_all (values.first ∷ values.rest)
joins_layer (layers.NullIf place left right) = left
joins_layer _ = true

abbrev pub pick_none : Pick-F Bool (Unit {0}) Bool (Unit {0}) Bool → Unit {0}
pick_none pick = tt

abbrev pub chain_link_joins_layer : ChainLink-F Bool (Unit {0}) Bool (Unit {0}) Bool → Bool
chain_link_joins_layer chain_link = chain_link.operand

abbrev pub select_none : Select-F Bool (Unit {0}) Bool (Unit {0}) Bool → Unit {0}
select_none select = tt

abbrev pub when_joins_layer : When-F Bool (Unit {0}) Bool (Unit {0}) Bool → Bool
when_joins_layer when = when.result

abbrev pub joins : Expr → Bool
joins = fold-Expr Bool (Unit {0}) Bool (Unit {0}) Bool joins_layer pick_none chain_link_joins_layer select_none when_joins_layer

abbrev pub chain_link_joins : ChainLink → Bool
chain_link_joins = fold-ChainLink Bool (Unit {0}) Bool (Unit {0}) Bool joins_layer pick_none chain_link_joins_layer select_none when_joins_layer

abbrev pub when_joins : When → Bool
when_joins = fold-When Bool (Unit {0}) Bool (Unit {0}) Bool joins_layer pick_none chain_link_joins_layer select_none when_joins_layer
