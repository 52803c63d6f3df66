use Rattle.std.proofs.Common.{◌≡◌, ◌<◌, length, get_or, ap, sym, subst, ◌∙◌, rules, Some, None}
use Rattle.std.specs.Option.{option_copied}
use Rattle.psm_table.specs.Mapped.{Mapped}
use Rattle.psm_table.specs.PairPosition.{probe_key}
use Rattle.std.specs.Prelude.{drop, slice_get}
use Rattle.std.proofs.Common.{◌+◌}
use Rattle.psm_table.specs.Map.{pairs_above}
use Rattle.psm_table.specs.Runs.{joined, IsIn}
use Rattle.psm_table.proofs.Joined.{after_there, after_past}
use Rattle.psm_table.proofs.map.OrderedMap.after.Goals as goal

pub returns-in-Some-clause-pair : goal.returns-in-Some-clause-pair
returns-in-Some-clause-pair g c =
    let same : joined c.self.inside.runs.items ≡ c.args.self.now.pairs = ap (λ (m : Mapped g.row.V.Denot). m.pairs) c.self.view_is in
    let some : 0 < length c.as_slice-runs.result.now = search rules in
    let here : IsIn (probe_key c.args.probe) c.self.inside.runs.items c.locate-at.result =
    subst (λ l. IsIn (probe_key c.args.probe) l c.locate-at.result) c.as_slice-runs.ensures.value (c.locate-at.ensures some) in
    let run : c.index-runs-at.result ≡ get_or c.self.inside.runs.items c.locate-at.result c.index-runs-at.result =
    subst (λ l. c.index-runs-at.result ≡ get_or l c.locate-at.result c.index-runs-at.result) c.as_slice-runs.ensures.value c.index-runs-at.is in
    let there : Some c.in-Some.pair.now ≡ slice_get (pairs_above (probe_key c.args.probe) (get_or c.self.inside.runs.items c.locate-at.result c.index-runs-at.result)) 0 = sym (ap option_copied c.in-Some.is) ∙ c.after.ensures ∙ ap (λ r. slice_get (pairs_above (probe_key c.args.probe) r) 0) run in
    after_there (probe_key c.args.probe) c.self.inside.runs.items c.locate-at.result c.index-runs-at.result here c.in-Some.pair.now there ∙ ap (λ l. slice_get (pairs_above (probe_key c.args.probe) l) 0) same

pub returns-in-None-clause-pair : goal.returns-in-None-clause-pair
returns-in-None-clause-pair g c =
    let same : joined c.self.inside.runs.items ≡ c.args.self.now.pairs = ap (λ (m : Mapped g.row.V.Denot). m.pairs) c.self.view_is in
    let some : 0 < length c.as_slice-runs.result.now = search rules in
    let here : IsIn (probe_key c.args.probe) c.self.inside.runs.items c.locate-at.result =
    subst (λ l. IsIn (probe_key c.args.probe) l c.locate-at.result) c.as_slice-runs.ensures.value (c.locate-at.ensures some) in
    let run : c.index-runs-at.result ≡ get_or c.self.inside.runs.items c.locate-at.result c.index-runs-at.result =
    subst (λ l. c.index-runs-at.result ≡ get_or l c.locate-at.result c.index-runs-at.result) c.as_slice-runs.ensures.value c.index-runs-at.is in
    let none : None ≡ slice_get (pairs_above (probe_key c.args.probe) (get_or c.self.inside.runs.items c.locate-at.result c.index-runs-at.result)) 0 = sym (ap option_copied c.in-None.is) ∙ c.after.ensures ∙ ap (λ r. slice_get (pairs_above (probe_key c.args.probe) r) 0) run in
    c.first_from.ensures ∙ ap (λ l. slice_get (joined (drop (c.locate-at.result + 1) l)) 0) c.as_slice-runs.ensures.value ∙ after_past (probe_key c.args.probe) c.self.inside.runs.items c.locate-at.result c.index-runs-at.result here none ∙ ap (λ l. slice_get (pairs_above (probe_key c.args.probe) l) 0) same
