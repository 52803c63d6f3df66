use Rattle.psm_resolve_expr.proofs.Joining.{spelled-joins}
use Rattle.psm_resolve_expr.proofs.Scaled.{resolved-scaled}
use Rattle.psm_resolve_expr.proofs.Scales.{stored-scale}
use Rattle.psm_resolve_expr.proofs.laws.numbers_have_the_scale_of_their_shape.Goals as goal

pub returns : goal.returns
returns c = record {
  expressions = resolved-scaled;
  spelled = λ resolver_scope row vars held depth tokens e spelled. resolved-scaled resolver_scope row vars held e (spelled-joins depth tokens e spelled);
  stored = stored-scale;
}
