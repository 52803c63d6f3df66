use Rattle.std.proofs.Common.{◌<◌, length, ap, sym, subst, ◌∙◌}
use Rattle.std.specs.Prelude.{slice_get}
use Rattle.std.specs.Option.{option_copied}
use Rattle.std.specs.Ordering.{is_eq}
use Rattle.psm_table.specs.Held.{row_of}
use Rattle.psm_table.specs.Map.{pairs_above}
use Rattle.psm_table.specs.PairPosition.{ahead}
use Rattle.psm_table.specs.MatchingEntries.{row_having}
use Rattle.psm_table.proofs.MatchingEntries.{passed-end, passed-less, passed-step, Passed}
use Rattle.psm_table.proofs.unique.first_found.Goals as goal

pub returns-then-not-is_eq-clause-none : goal.returns-then-not-is_eq-clause-none
returns-then-not-is_eq-clause-none c =
    passed-end c.args.columns.now c.args.values.now c.args.rows.now.pairs c.args.entries.now.pairs (option_copied c.args.from) c.in-Some.entry.now
    (subst (λ n. Passed c.args.columns.now c.args.values.now c.args.rows.now.pairs c.args.entries.now.pairs (option_copied c.args.from) (option_copied n)) c.in-Some.is c.walk.invariant)
    (ap is_eq (sym c.order_of_prefix.ensures) ∙ sym c.is_eq.ensures ∙ c.if-not-is_eq.true)

pub walk-smaller : goal.walk-smaller
walk-smaller c =
    subst (λ n. length (ahead c.args.entries.now.pairs (option_copied c.after-next.result)) < length (ahead c.args.entries.now.pairs (option_copied n))) (sym c.in-Some.is)
    (passed-less c.args.columns.now c.args.values.now c.args.rows.now.pairs c.args.entries.now.pairs c.in-Some.entry.now (option_copied c.after-next.result)
    c.after-next.ensures.ordered (c.after-next.ensures.pair ∙ ap (λ k. slice_get (pairs_above k c.args.entries.now.pairs) 0) c.probe.ensures.key))

pub walk-preserved : goal.walk-preserved
walk-preserved c =
    passed-step c.args.columns.now c.args.values.now c.args.rows.now.pairs c.args.entries.now.pairs (option_copied c.args.from) c.in-Some.entry.now (option_copied c.after-next.result) c.after-next.ensures.ordered
    (subst (λ n. Passed c.args.columns.now c.args.values.now c.args.rows.now.pairs c.args.entries.now.pairs (option_copied c.args.from) (option_copied n)) c.in-Some.is c.walk.invariant)
    (ap (λ k. row_having c.args.columns.now c.args.values.now (row_of k c.args.rows.now.pairs)) (sym c.rest.ensures.key)
    ∙ sym c.row_with.ensures ∙ ap option_copied c.in_default-row_with.is)
    (c.after-next.ensures.pair ∙ ap (λ k. slice_get (pairs_above k c.args.entries.now.pairs) 0) c.probe.ensures.key)
