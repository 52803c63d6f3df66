use Rattle.std.proofs.Common.{◌≡◌, false, nat_eq, get_or, sym, ◌∙◌, arith}
use Rattle.psm_machine.proofs.Filled.{value_next, value_past}
use Rattle.psm_machine.proofs.putting.value_for.Goals as goal

pub returns-then-at-values : goal.returns-then-at-values
returns-then-at-values c = sym (value_past c.args.index c.loop-at.at c.args.columns.now c.args.values.now c.args.default.now c.if-at-values.true) ∙ c.loop-at.invariant

pub loop-at-preserved : goal.loop-at-preserved
loop-at-preserved c =
    let other : nat_eq (get_or c.args.columns.now c.loop-at.at 0) c.args.index ≡ false = grind (arith, c.if-columns-at.false) in
    value_next c.args.index c.loop-at.at c.args.columns.now c.args.values.now c.args.default.now 0 c.loop-at-test.true c.if-at-values.false other ∙ c.loop-at.invariant
