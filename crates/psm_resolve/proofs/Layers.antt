-- The layers of items and of names.
use Rattle.psm_tree.specs.declared.expr.Expr.TheVariants as exprs
use Rattle.psm_tree.specs.declared.expr.Pick.TheVariants as picked

pub ruleset pick_layers = (picked.outs-All, picked.outs-Expr, picked.outs-CountRows, picked.outs-Aggregate)

pub ruleset expr_layers = (exprs.outs-Null, exprs.outs-Number, exprs.outs-Text, exprs.outs-Name, exprs.outs-LogicalOperator, exprs.outs-Not, exprs.outs-Compare, exprs.outs-IsNull, exprs.outs-Between, exprs.outs-In, exprs.outs-Like, exprs.outs-OperatorChain, exprs.outs-Signed, exprs.outs-Call, exprs.outs-Parenthesized, exprs.outs-Subquery, exprs.outs-Exists, exprs.outs-Case, exprs.outs-Cast, exprs.outs-Coalesce, exprs.outs-NullIf, exprs.outs-Function, exprs.outs-Position, exprs.outs-Substring, exprs.outs-Trim)
