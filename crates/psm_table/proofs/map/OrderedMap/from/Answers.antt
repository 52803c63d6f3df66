use Rattle.std.proofs.Common.{◌≡◌, ◌<◌, length, get_or, ap, sym, subst, ◌∙◌, rules, Some, None}
use Rattle.std.specs.Option.{option_copied}
use Rattle.psm_table.specs.Mapped.{Mapped}
use Rattle.psm_table.specs.PairPosition.{probe_key}
use Rattle.std.specs.Prelude.{drop, not, slice_get}
use Rattle.std.specs.Ordering.{is_lt}
use Rattle.std.proofs.Common.{◌+◌}
use Rattle.psm_table.specs.Map.{pairs_from, prefix_order}
use Rattle.psm_table.specs.Runs.{joined, IsTurn}
use Rattle.psm_table.proofs.Joined.{from_there, from_past}
use Rattle.psm_table.proofs.map.OrderedMap.from.Goals as goal

pub returns-in-Some-clause-pair : goal.returns-in-Some-clause-pair
returns-in-Some-clause-pair g c =
    let same : joined c.self.inside.runs.items ≡ c.args.self.now.pairs = ap (λ (m : Mapped g.row.V.Denot). m.pairs) c.self.view_is in
    let some : 0 < length c.as_slice-runs.result.now = search rules in
    let here : IsTurn (λ p. not (is_lt (prefix_order (probe_key c.args.probe) p.key))) c.self.inside.runs.items c.locate_past-at.result =
    subst (λ l. IsTurn (λ p. not (is_lt (prefix_order (probe_key c.args.probe) p.key))) l c.locate_past-at.result) c.as_slice-runs.ensures.value (c.locate_past-at.ensures some) in
    let run : c.index-runs-at.result ≡ get_or c.self.inside.runs.items c.locate_past-at.result c.index-runs-at.result =
    subst (λ l. c.index-runs-at.result ≡ get_or l c.locate_past-at.result c.index-runs-at.result) c.as_slice-runs.ensures.value c.index-runs-at.is in
    let there : Some c.in-Some.pair.now ≡ slice_get (pairs_from (probe_key c.args.probe) (get_or c.self.inside.runs.items c.locate_past-at.result c.index-runs-at.result)) 0 = sym (ap option_copied c.in-Some.is) ∙ c.from.ensures ∙ ap (λ r. slice_get (pairs_from (probe_key c.args.probe) r) 0) run in
    from_there (λ p. not (is_lt (prefix_order (probe_key c.args.probe) p.key))) c.self.inside.runs.items c.locate_past-at.result c.index-runs-at.result here c.in-Some.pair.now there ∙ ap (λ l. slice_get (pairs_from (probe_key c.args.probe) l) 0) same

pub returns-in-None-clause-pair : goal.returns-in-None-clause-pair
returns-in-None-clause-pair g c =
    let same : joined c.self.inside.runs.items ≡ c.args.self.now.pairs = ap (λ (m : Mapped g.row.V.Denot). m.pairs) c.self.view_is in
    let some : 0 < length c.as_slice-runs.result.now = search rules in
    let here : IsTurn (λ p. not (is_lt (prefix_order (probe_key c.args.probe) p.key))) c.self.inside.runs.items c.locate_past-at.result =
    subst (λ l. IsTurn (λ p. not (is_lt (prefix_order (probe_key c.args.probe) p.key))) l c.locate_past-at.result) c.as_slice-runs.ensures.value (c.locate_past-at.ensures some) in
    let run : c.index-runs-at.result ≡ get_or c.self.inside.runs.items c.locate_past-at.result c.index-runs-at.result =
    subst (λ l. c.index-runs-at.result ≡ get_or l c.locate_past-at.result c.index-runs-at.result) c.as_slice-runs.ensures.value c.index-runs-at.is in
    let none : None ≡ slice_get (pairs_from (probe_key c.args.probe) (get_or c.self.inside.runs.items c.locate_past-at.result c.index-runs-at.result)) 0 = sym (ap option_copied c.in-None.is) ∙ c.from.ensures ∙ ap (λ r. slice_get (pairs_from (probe_key c.args.probe) r) 0) run in
    c.first_from.ensures ∙ ap (λ l. slice_get (joined (drop (c.locate_past-at.result + 1) l)) 0) c.as_slice-runs.ensures.value ∙ from_past (λ p. not (is_lt (prefix_order (probe_key c.args.probe) p.key))) c.self.inside.runs.items c.locate_past-at.result c.index-runs-at.result here none ∙ ap (λ l. slice_get (pairs_from (probe_key c.args.probe) l) 0) same
