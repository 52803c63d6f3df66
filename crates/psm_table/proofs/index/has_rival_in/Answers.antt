use Rattle.std.proofs.Common.{◌<◌, length, ap, sym, subst, ◌∙◌}
use Rattle.std.specs.Prelude.{slice_get}
use Rattle.std.specs.Option.{option_copied}
use Rattle.std.specs.Ordering.{is_eq}
use Rattle.psm_table.specs.Held.{row_of}
use Rattle.psm_table.specs.Index.{rival_at}
use Rattle.psm_table.specs.Key.{values_at}
use Rattle.psm_table.specs.Map.{pairs_above}
use Rattle.psm_table.specs.PairPosition.{ahead, probe_key}
use Rattle.psm_table.proofs.Keys.{columns_exist}
use Rattle.psm_table.proofs.PrefixWalks.{walked-end, walked-less, walked-start, walked-step, Walked}
use Rattle.psm_table.proofs.Rivals.{rival-clashes, rival_by}
use Rattle.psm_table.proofs.index.has_rival_in.Goals as goal

pub from-next-requires : goal.from-next-requires
from-next-requires c = columns_exist c.args.columns.now c.args.row.now c.requires.columns

pub order_of_prefix-requires : goal.order_of_prefix-requires
order_of_prefix-requires c = columns_exist c.args.columns.now c.args.row.now c.requires.columns

pub walk-init : goal.walk-init
walk-init c =
    walked-start (values_at c.args.columns.now c.args.row.now) (rival_by c.args.def.now c.args.row.now c.args.columns.now c.args.rows.now.pairs) c.args.index.now.pairs (option_copied c.from-next.result)
    c.from-next.ensures.ordered c.from-next.ensures.pair

pub returns-then-not-is_eq-clause-none : goal.returns-then-not-is_eq-clause-none
returns-then-not-is_eq-clause-none c =
    walked-end (values_at c.args.columns.now c.args.row.now) (rival_by c.args.def.now c.args.row.now c.args.columns.now c.args.rows.now.pairs) c.args.index.now.pairs c.in-Some.entry.now
    (subst (λ n. Walked (values_at c.args.columns.now c.args.row.now) (rival_by c.args.def.now c.args.row.now c.args.columns.now c.args.rows.now.pairs) c.args.index.now.pairs (option_copied n)) c.in-Some.is c.walk.invariant)
    (ap is_eq (sym c.order_of_prefix.ensures) ∙ sym c.is_eq.ensures ∙ c.if-not-is_eq.true)

pub returns-then-is_rival_at-clause-found : goal.returns-then-is_rival_at-clause-found
returns-then-is_rival_at-clause-found c =
    rival-clashes c.args.def.now c.args.row.now (probe_key c.rest.result) c.args.rows.now.pairs (sym c.is_rival_at.ensures ∙ c.if-is_rival_at.true)

pub walk-smaller : goal.walk-smaller
walk-smaller c =
    subst (λ n. length (ahead c.args.index.now.pairs (option_copied c.after-next.result)) < length (ahead c.args.index.now.pairs (option_copied n))) (sym c.in-Some.is)
    (walked-less (values_at c.args.columns.now c.args.row.now) (rival_by c.args.def.now c.args.row.now c.args.columns.now c.args.rows.now.pairs) c.args.index.now.pairs c.in-Some.entry.now (option_copied c.after-next.result)
    c.after-next.ensures.ordered (c.after-next.ensures.pair ∙ ap (λ k. slice_get (pairs_above k c.args.index.now.pairs) 0) c.probe.ensures.key))

pub walk-preserved : goal.walk-preserved
walk-preserved c =
    walked-step (values_at c.args.columns.now c.args.row.now) (rival_by c.args.def.now c.args.row.now c.args.columns.now c.args.rows.now.pairs) c.args.index.now.pairs c.in-Some.entry.now (option_copied c.after-next.result) c.after-next.ensures.ordered
    (subst (λ n. Walked (values_at c.args.columns.now c.args.row.now) (rival_by c.args.def.now c.args.row.now c.args.columns.now c.args.rows.now.pairs) c.args.index.now.pairs (option_copied n)) c.in-Some.is c.walk.invariant)
    (λ e. ap (λ k. rival_at c.args.def.now c.args.row.now (row_of k c.args.rows.now.pairs)) (sym c.rest.ensures.key)
    ∙ sym c.is_rival_at.ensures ∙ c.if-is_rival_at.false)
    (c.after-next.ensures.pair ∙ ap (λ k. slice_get (pairs_above k c.args.index.now.pairs) 0) c.probe.ensures.key)
