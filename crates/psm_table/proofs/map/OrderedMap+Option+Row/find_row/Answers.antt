use Rattle.std.proofs.Common.{◌≡◌, ◌<◌, List, length, get_or, ap, sym, subst, ◌∙◌, rules}
use Rattle.std.specs.Prelude.{Option, is_some}
use Rattle.psm_value.specs.declared.datum.Datum.{Datum}
use Rattle.psm_table.specs.Held.{row_of, the_row}
use Rattle.psm_table.specs.Mapped.{Mapped}
use Rattle.psm_table.specs.PairPosition.{probe_key, StandsAt}
use Rattle.psm_table.specs.Runs.{IsIn}
use Rattle.psm_table.proofs.Joined.{stands_at, value-in}
use Rattle.psm_table.proofs.map.OrderedMap+Option+Row.find_row.Goals as goal

pub returns-in_err-at-clause-row : goal.returns-in_err-at-clause-row
returns-in_err-at-clause-row c =
    let some : 0 < length c.as_slice-runs.result.now = search rules in
    let here : IsIn (probe_key c.args.probe) c.self.inside.runs.items c.locate-run.result =
    subst (λ l. IsIn (probe_key c.args.probe) l c.locate-run.result) c.as_slice-runs.ensures.value (c.locate-run.ensures some) in
    let run : c.index-runs-run.result ≡ get_or c.self.inside.runs.items c.locate-run.result c.index-runs-run.result =
    subst (λ l. c.index-runs-run.result ≡ get_or l c.locate-run.result c.index-runs-run.result) c.as_slice-runs.ensures.value c.index-runs-run.is in
    ap is_some c.from_residual.ensures
    ∙ c.in_err-at.ensures.row
    ∙ ap (λ l. is_some (row_of (probe_key c.args.probe) l)) run
    ∙ ap (λ v. is_some (the_row v)) (sym (value-in (probe_key c.args.probe) c.self.inside.runs.items c.locate-run.result c.index-runs-run.result here))
    ∙ ap (λ (m : Mapped (Option (List Datum))). is_some (row_of (probe_key c.args.probe) m.pairs)) c.self.view_is

pub returns : goal.returns
returns c =
    let some : 0 < length c.as_slice-runs.result.now = search rules in
    let here : IsIn (probe_key c.args.probe) c.self.inside.runs.items c.locate-run.result =
    subst (λ l. IsIn (probe_key c.args.probe) l c.locate-run.result) c.as_slice-runs.ensures.value (c.locate-run.ensures some) in
    let run : c.index-runs-run.result ≡ get_or c.self.inside.runs.items c.locate-run.result c.index-runs-run.result =
    subst (λ l. c.index-runs-run.result ≡ get_or l c.locate-run.result c.index-runs-run.result) c.as_slice-runs.ensures.value c.index-runs-run.is in
    record {
      at = subst (λ l. StandsAt (probe_key c.args.probe) l (record { run = c.locate-run.result; at = c.in_ok-at.at })) (ap (λ (m : Mapped (Option (List Datum))). m.runs) c.self.view_is)
          (stands_at (probe_key c.args.probe) c.self.inside.runs.items c.locate-run.result c.in_ok-at.at c.index-runs-run.result here run c.in_ok-at.ensures.at);
      row = c.in_ok-at.ensures.row
          ∙ ap (λ l. is_some (row_of (probe_key c.args.probe) l)) run
          ∙ ap (λ v. is_some (the_row v)) (sym (value-in (probe_key c.args.probe) c.self.inside.runs.items c.locate-run.result c.index-runs-run.result here))
          ∙ ap (λ (m : Mapped (Option (List Datum))). is_some (row_of (probe_key c.args.probe) m.pairs)) c.self.view_is;
    }
