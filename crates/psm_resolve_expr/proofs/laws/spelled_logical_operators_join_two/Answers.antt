use Rattle.psm_resolve_expr.proofs.Joining.{spelled-joins}
use Rattle.psm_resolve_expr.proofs.laws.spelled_logical_operators_join_two.Goals as goal

pub returns : goal.returns
returns c = spelled-joins
