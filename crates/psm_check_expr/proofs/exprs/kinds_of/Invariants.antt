use Rattle.std.proofs.Common.{◌≡◌, ◌++◌, drop, map}
use Rattle.psm_rules.specs.Checked.{shape_of}
use Rattle.psm_rules.specs.Shapes.{kind_of}
use Rattle.psm_check_expr.proofs.exprs.kinds_of.Given as goal

abbrev pub invariant-loop-value : goal.invariant-loop-value
invariant-loop-value l = l.kinds.items ++ map (λ f. kind_of (shape_of f)) (drop l.value-index l.values) ≡ map (λ f. kind_of (shape_of f)) l.values
