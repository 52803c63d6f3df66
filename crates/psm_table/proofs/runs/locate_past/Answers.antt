use Rattle.std.proofs.Common.{◌≡◌, [], get_or, ap, sym, subst, ◌∙◌, arith, ◌+◌, ◌-◌, ◌/◌, true, false}
use Rattle.std.proofs.lemmas.List.{get_or_default}
use Rattle.psm_table.specs.Cuts.{is_past}
use Rattle.psm_table.specs.PairPosition.{probe_key}
use Rattle.psm_table.specs.Runs.{begins, IsTurn}
use Rattle.psm_table.proofs.Turns.{cut_fail, cut_pass, turn_end}
use Rattle.psm_table.proofs.Walks.{up-past}
use Rattle.psm_table.proofs.runs.locate_past.Goals as goal

pub loop-low-preserved-then-begins_past : goal.loop-low-preserved-then-begins_past
loop-low-preserved-then-begins_past g c =
    let e : begins (λ p. is_past (probe_key c.args.probe) c.args.is_after p.key) (get_or c.args.runs.now (c.loop-low.low + (c.loop-low.high - c.loop-low.low) / 2) []) ≡ true = ap (begins (λ p. is_past (probe_key c.args.probe) c.args.is_after p.key)) (get_or_default c.args.runs.now (c.loop-low.low + (c.loop-low.high - c.loop-low.low) / 2) [] c.index-runs-middle.result (omega (arith, c.loop-low.invariant.bound)) ∙ sym c.index-runs-middle.is) ∙ sym c.begins_past.ensures ∙ c.if-begins_past.true in
    cut_pass (λ p. is_past (probe_key c.args.probe) c.args.is_after p.key) c.args.runs.now c.requires.order c.requires.runs c.loop-low.low c.loop-low.high (c.loop-low.low + (c.loop-low.high - c.loop-low.low) / 2) c.loop-low.invariant (omega arith) (omega arith) e

pub loop-low-preserved : goal.loop-low-preserved
loop-low-preserved g c =
    let e : begins (λ p. is_past (probe_key c.args.probe) c.args.is_after p.key) (get_or c.args.runs.now (c.loop-low.low + (c.loop-low.high - c.loop-low.low) / 2) []) ≡ false = ap (begins (λ p. is_past (probe_key c.args.probe) c.args.is_after p.key)) (get_or_default c.args.runs.now (c.loop-low.low + (c.loop-low.high - c.loop-low.low) / 2) [] c.index-runs-middle.result (omega (arith, c.loop-low.invariant.bound)) ∙ sym c.index-runs-middle.is) ∙ sym c.begins_past.ensures ∙ c.if-begins_past.false in
    cut_fail (λ p. is_past (probe_key c.args.probe) c.args.is_after p.key) c.args.runs.now c.requires.order c.requires.runs c.loop-low.low c.loop-low.high (c.loop-low.low + (c.loop-low.high - c.loop-low.low) / 2) c.loop-low.invariant (omega arith) (omega arith) e

pub returns : goal.returns
returns g c = λ some.
    subst (IsTurn (λ p. is_past (probe_key c.args.probe) c.args.is_after p.key) c.args.runs.now) (sym c.saturating_sub.ensures)
    (turn_end (λ p. is_past (probe_key c.args.probe) c.args.is_after p.key) c.args.runs.now c.requires.order c.requires.runs (up-past (probe_key c.args.probe) c.args.is_after) c.loop-low.low c.loop-low.high c.loop-low.invariant c.loop-low-test.false some)
