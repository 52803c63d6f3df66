use Rattle.std.proofs.Common.{◌∙◌}
use Rattle.psm_resolve_expr.proofs.Joined.{columns_step}
use Rattle.psm_resolve_expr.proofs.picks.Picks.push_columns.Goals as goal

pub loop-number-preserved : goal.loop-number-preserved
loop-number-preserved c =
    columns_step c.loop-number.self c.push_column.new.self c.args.columns.now c.loop-number.number c.at.result.now c.at.ensures c.in_ok-push_column.ensures ∙ c.loop-number.invariant
