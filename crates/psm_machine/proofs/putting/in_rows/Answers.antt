use Rattle.std.proofs.Common.{reverse, sym, ◌∙◌}
use Rattle.psm_machine.proofs.Filled.{rows_next}
use Rattle.psm_machine.proofs.putting.in_rows.Goals as goal

pub loop-index-preserved : goal.loop-index-preserved
loop-index-preserved c =
    sym (rows_next c.args.rows c.loop-index.index c.args.width c.loop-index.made.items c.push.new.self.items c.in_ok-first_values.field-0 (reverse c.loop-index.rest.items) (reverse c.first_values.new.rest.items)
    c.loop-index-test.true c.in_ok-push.ensures.items c.in_ok-first_values.ensures.taken c.in_ok-first_values.ensures.left)
    ∙ c.loop-index.invariant
