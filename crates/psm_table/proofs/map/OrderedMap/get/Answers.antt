use Rattle.std.proofs.Common.{◌≡◌, ◌<◌, length, get_or, ap, sym, subst, ◌∙◌, rules}
use Rattle.psm_table.specs.Map.{value_of}
use Rattle.psm_table.specs.Mapped.{Mapped}
use Rattle.psm_table.specs.PairPosition.{probe_key}
use Rattle.psm_table.specs.Runs.{joined, IsIn}
use Rattle.psm_table.proofs.Joined.{value-in}
use Rattle.psm_table.proofs.map.OrderedMap.get.Goals as goal

pub returns : goal.returns
returns g c =
    let same : joined c.self.inside.runs.items ≡ c.args.self.now.pairs = ap (λ (m : Mapped g.row.V.Denot). m.pairs) c.self.view_is in
    let some : 0 < length c.as_slice-runs.result.now = search rules in
    let here : IsIn (probe_key c.args.probe) c.self.inside.runs.items c.locate-at.result =
    subst (λ l. IsIn (probe_key c.args.probe) l c.locate-at.result) c.as_slice-runs.ensures.value (c.locate-at.ensures some) in
    let run : c.index-runs-at.result ≡ get_or c.self.inside.runs.items c.locate-at.result c.index-runs-at.result =
    subst (λ l. c.index-runs-at.result ≡ get_or l c.locate-at.result c.index-runs-at.result) c.as_slice-runs.ensures.value c.index-runs-at.is in
    c.get.ensures ∙ ap (value_of (probe_key c.args.probe)) run ∙ sym (value-in (probe_key c.args.probe) c.self.inside.runs.items c.locate-at.result c.index-runs-at.result here) ∙ ap (value_of (probe_key c.args.probe)) same
