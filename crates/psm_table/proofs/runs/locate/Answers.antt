use Rattle.std.proofs.Common.{◌≡◌, [], get_or, ap, sym, subst, ◌∙◌, arith, ◌+◌, ◌-◌, ◌/◌, true, false}
use Rattle.std.proofs.lemmas.List.{get_or_default}
use Rattle.std.specs.Ordering.{is_gt}
use Rattle.psm_table.specs.Key.{key_order}
use Rattle.psm_table.specs.PairPosition.{probe_key}
use Rattle.psm_table.specs.Runs.{begins, IsIn}
use Rattle.psm_table.proofs.Turns.{cut_fail, cut_pass, in_end}
use Rattle.psm_table.proofs.runs.locate.Goals as goal

pub loop-low-preserved-then-begins_above : goal.loop-low-preserved-then-begins_above
loop-low-preserved-then-begins_above g c =
    let e : begins (λ p. is_gt (key_order p.key (probe_key c.args.probe))) (get_or c.args.runs.now (c.loop-low.low + (c.loop-low.high - c.loop-low.low) / 2) []) ≡ true = ap (begins (λ p. is_gt (key_order p.key (probe_key c.args.probe)))) (get_or_default c.args.runs.now (c.loop-low.low + (c.loop-low.high - c.loop-low.low) / 2) [] c.index-runs-middle.result (omega (arith, c.loop-low.invariant.bound)) ∙ sym c.index-runs-middle.is) ∙ ap (λ k. begins (λ p. is_gt (key_order p.key k)) c.index-runs-middle.result) (sym c.narrowed-sought.ensures.key) ∙ sym c.begins_above.ensures ∙ c.if-begins_above.true in
    cut_pass (λ p. is_gt (key_order p.key (probe_key c.args.probe))) c.args.runs.now c.requires.order c.requires.runs c.loop-low.low c.loop-low.high (c.loop-low.low + (c.loop-low.high - c.loop-low.low) / 2) c.loop-low.invariant (omega arith) (omega arith) e

pub loop-low-preserved : goal.loop-low-preserved
loop-low-preserved g c =
    let e : begins (λ p. is_gt (key_order p.key (probe_key c.args.probe))) (get_or c.args.runs.now (c.loop-low.low + (c.loop-low.high - c.loop-low.low) / 2) []) ≡ false = ap (begins (λ p. is_gt (key_order p.key (probe_key c.args.probe)))) (get_or_default c.args.runs.now (c.loop-low.low + (c.loop-low.high - c.loop-low.low) / 2) [] c.index-runs-middle.result (omega (arith, c.loop-low.invariant.bound)) ∙ sym c.index-runs-middle.is) ∙ ap (λ k. begins (λ p. is_gt (key_order p.key k)) c.index-runs-middle.result) (sym c.narrowed-sought.ensures.key) ∙ sym c.begins_above.ensures ∙ c.if-begins_above.false in
    cut_fail (λ p. is_gt (key_order p.key (probe_key c.args.probe))) c.args.runs.now c.requires.order c.requires.runs c.loop-low.low c.loop-low.high (c.loop-low.low + (c.loop-low.high - c.loop-low.low) / 2) c.loop-low.invariant (omega arith) (omega arith) e

pub returns : goal.returns
returns g c = λ some.
    subst (IsIn (probe_key c.args.probe) c.args.runs.now) (sym c.saturating_sub.ensures)
    (in_end (probe_key c.args.probe) c.args.runs.now c.requires.order c.requires.runs c.loop-low.low c.loop-low.high c.loop-low.invariant c.loop-low-test.false some)
