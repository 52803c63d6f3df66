use Rattle.std.proofs.Common.{◌∙◌}
use Rattle.psm_code.specs.Calling.{on_top}
use Rattle.psm_machine.proofs.Leavings.{top_next}
use Rattle.psm_machine.proofs.ends.put_on_top.Goals as goal

pub loop-value-preserved : goal.loop-value-preserved
loop-value-preserved c = record {
  own =
      top_next c.loop-value.values.items c.pop.new.self.items c.in-Some.value c.loop-value.operands.own c.push.new.self.own (on_top c.args.values.items c.args.operands.now.own)
      c.in-Some.ensures.items c.in_ok-push.ensures.ok c.loop-value.invariant.own;
  callers = c.push.ensures.callers ∙ c.loop-value.invariant.callers;
}
