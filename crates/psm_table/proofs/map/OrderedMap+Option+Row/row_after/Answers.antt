use Rattle.std.proofs.Common.{ap, sym, ◌∙◌}
use Rattle.std.specs.Prelude.{slice_get}
use Rattle.std.specs.Ordering.{is_gt}
use Rattle.psm_table.specs.Held.{live_rows}
use Rattle.psm_table.specs.Key.{key_order}
use Rattle.psm_table.specs.PairPosition.{ahead, pairs_past, probe_key}
use Rattle.psm_table.proofs.Lives.{Slot}
use Rattle.psm_table.proofs.Walks.{ahead-all, ahead-filter, up-above}
use Rattle.psm_table.proofs.map.OrderedMap+Option+Row.row_after.Goals as goal

pub returns-in-Some : goal.returns-in-Some
returns-in-Some c =
    c.row_ahead.ensures
    ∙ ap (λ l. slice_get (live_rows l) 0)
    (ap (ahead c.args.self.now.pairs) c.after.ensures.pair
    ∙ ahead-filter (λ (q : Slot). is_gt (key_order q.key (probe_key c.in-Some.probe))) c.args.self.now.pairs (up-above (probe_key c.in-Some.probe)) c.after.ensures.ordered)
    ∙ sym (ap (λ o. slice_get (live_rows (pairs_past o c.args.self.now.pairs)) 0) c.in-Some.is)

pub returns-in-None : goal.returns-in-None
returns-in-None c =
    c.row_ahead-in-None.ensures
    ∙ ap (λ l. slice_get (live_rows l) 0) (ap (ahead c.args.self.now.pairs) c.first.ensures.pair ∙ ahead-all c.args.self.now.pairs c.first.ensures.ordered)
    ∙ sym (ap (λ o. slice_get (live_rows (pairs_past o c.args.self.now.pairs)) 0) c.in-None.is)
