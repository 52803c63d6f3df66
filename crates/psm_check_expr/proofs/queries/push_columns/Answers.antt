use Rattle.std.proofs.Common.{◌∙◌}
use Rattle.psm_check_expr.proofs.Items.{columns_step}
use Rattle.psm_check_expr.proofs.queries.push_columns.Goals as goal

pub loop-number-preserved : goal.loop-number-preserved
loop-number-preserved c =
    columns_step c.args.place c.loop-number.items.items c.push.new.self.items c.args.columns.now c.loop-number.number c.at.result.now c.column_shape-shape.result
    c.column_shape-shape.ensures c.in_ok-push.ensures.items c.at.ensures ∙ c.loop-number.invariant
