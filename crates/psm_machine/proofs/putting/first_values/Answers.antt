use Rattle.std.proofs.Common.{sym, ◌∙◌}
use Rattle.psm_machine.proofs.Filled.{first_next}
use Rattle.psm_machine.proofs.putting.first_values.Goals as goal

pub loop-index-preserved : goal.loop-index-preserved
loop-index-preserved c =
    let n = first_next c.args.width c.loop-index.index c.loop-index.row.items c.push.new.self.items c.loop-index.rest.items c.pop.new.self.items c.in-Some.value c.loop-index-test.true c.in_ok-push.ensures.items c.in-Some.ensures.items in
    (sym n.0 ∙ c.loop-index.invariant.0, sym n.1 ∙ c.loop-index.invariant.1)
