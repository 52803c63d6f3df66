use Rattle.std.proofs.Common.{◌∙◌}
use Rattle.psm_symbols.proofs.EachColumn.{types_step}
use Rattle.psm_symbols.proofs.columns.types_of_all.Goals as goal

pub loop-number-preserved : goal.loop-number-preserved
loop-number-preserved c =
    types_step c.loop-number.kinds.items c.push.new.self.items c.args.columns.now c.loop-number.number c.at.result.now c.in_ok-push.ensures.items c.at.ensures
    ∙ c.loop-number.invariant
