use Rattle.std.proofs.Common.{◌≡◌, ◌<◌, ap, sym, subst, ◌∙◌, length}
use Rattle.std.specs.Prelude.{slice_get}
use Rattle.std.specs.Option.{option_copied}
use Rattle.std.specs.Ordering.{is_gt}
use Rattle.psm_table.specs.Held.{live_rows}
use Rattle.psm_table.specs.Key.{key_order}
use Rattle.psm_table.specs.Map.{pairs_above}
use Rattle.psm_table.specs.PairPosition.{ahead, probe_key}
use Rattle.psm_table.proofs.Lives.{flagged-ahead, Slot}
use Rattle.psm_table.proofs.Walks.{ahead-filter, next_less, up-above}
use Rattle.psm_table.proofs.map.OrderedMap+Option+Row.row_ahead.Goals as goal

pub loop-next-smaller : goal.loop-next-smaller
loop-next-smaller c =
    let e : ahead c.args.self.now.pairs (option_copied c.after-next.result) ≡ pairs_above c.in-Some.pair.now.key c.args.self.now.pairs =
    ap (ahead c.args.self.now.pairs) c.after-next.ensures.pair
    ∙ ahead-filter (λ (q : Slot). is_gt (key_order q.key (probe_key c.probe.result))) c.args.self.now.pairs (up-above (probe_key c.probe.result)) c.after-next.ensures.ordered
    ∙ ap (λ k. pairs_above k c.args.self.now.pairs) c.probe.ensures.key in
    subst (λ n. length (ahead c.args.self.now.pairs (option_copied c.after-next.result)) < length (ahead c.args.self.now.pairs (option_copied n))) (sym c.in-Some.is)
    (next_less (ahead c.args.self.now.pairs (option_copied c.after-next.result)) (pairs_above c.in-Some.pair.now.key c.args.self.now.pairs) c.in-Some.pair.now e)

pub loop-next-preserved : goal.loop-next-preserved
loop-next-preserved c =
    ap (λ l. slice_get (live_rows l) 0)
    (ap (ahead c.args.self.now.pairs) c.after-next.ensures.pair
    ∙ ahead-filter (λ (q : Slot). is_gt (key_order q.key (probe_key c.probe.result))) c.args.self.now.pairs (up-above (probe_key c.probe.result)) c.after-next.ensures.ordered
    ∙ ap (λ k. pairs_above k c.args.self.now.pairs) c.probe.ensures.key)
    ∙ sym (ap (λ l. slice_get l 0) (flagged-ahead c.args.self.now.pairs c.in-Some.pair.now c.in-None.is))
    ∙ sym (ap (λ n. slice_get (live_rows (ahead c.args.self.now.pairs (option_copied n))) 0) c.in-Some.is)
    ∙ c.loop-next.invariant
