use Rattle.std.proofs.Common.{◌≡◌, ◌<◌, List, length, set, ap, sym, subst, ◌∙◌, rules, None}
use Rattle.std.specs.Prelude.{Option}
use Rattle.std.proofs.lemmas.List.Elements.{All-set}
use Rattle.psm_value.specs.declared.datum.Datum.{Datum}
use Rattle.psm_table.specs.Held.{row_of, the_row}
use Rattle.psm_table.specs.Map.{with_value, AreAscending}
use Rattle.psm_table.specs.Mapped.{Mapped}
use Rattle.psm_table.specs.PairPosition.{probe_key}
use Rattle.psm_table.specs.Runs.{joined, IsIn, IsRun}
use Rattle.psm_table.proofs.Joined.{ascending-with_value, run_exchanged, value-in, with_value-in}
use Rattle.psm_table.proofs.map.OrderedMap+Option+Row.take_row.Goals as goal

pub invariant_of-self : goal.invariant_of-self
invariant_of-self c =
    let some : 0 < length c.self.inside.runs.items = search rules in
    let here : IsIn (probe_key c.args.probe) c.self.inside.runs.items c.locate-at.result =
    subst (λ l. IsIn (probe_key c.args.probe) l c.locate-at.result) c.as_slice.ensures.value (c.locate-at.ensures (subst (λ l. 0 < length l) (sym c.as_slice.ensures.value) some)) in
    let e : joined (set c.self.inside.runs.items c.locate-at.result c.take_row.new.self) ≡ with_value (probe_key c.args.probe) None (joined c.self.inside.runs.items) =
    ap (λ r. joined (set c.self.inside.runs.items c.locate-at.result r)) (c.take_row.ensures.pairs ∙ ap (with_value (probe_key c.args.probe) None) c.index_mut.ensures.value) ∙ with_value-in (probe_key c.args.probe) c.self.inside.runs.items c.locate-at.result c.index_mut.result.now here None in
    let was : IsRun c.index_mut.result.now = subst IsRun (sym c.index_mut.ensures.value) (c.self.invariant.1 c.locate-at.result c.index_mut.result.now here.inside) in (
      subst AreAscending (sym e) (ascending-with_value (probe_key c.args.probe) None (joined c.self.inside.runs.items) c.self.invariant.0),
      All-set IsRun c.self.inside.runs.items c.locate-at.result c.take_row.new.self (run_exchanged (probe_key c.args.probe) None c.take_row.new.self c.index_mut.result.now was c.take_row.ensures.pairs) c.self.invariant.1,
      c.self.invariant.2,
      c.self.invariant.3,
    )

pub returns-clause-row : goal.returns-clause-row
returns-clause-row c =
    let same : joined c.self.inside.runs.items ≡ c.args.self.now.pairs = ap (λ (m : Mapped (Option (List Datum))). m.pairs) c.self.view_is in
    let some : 0 < length c.self.inside.runs.items = search rules in
    let here : IsIn (probe_key c.args.probe) c.self.inside.runs.items c.locate-at.result =
    subst (λ l. IsIn (probe_key c.args.probe) l c.locate-at.result) c.as_slice.ensures.value (c.locate-at.ensures (subst (λ l. 0 < length l) (sym c.as_slice.ensures.value) some)) in
    c.take_row.ensures.row ∙ ap (row_of (probe_key c.args.probe)) c.index_mut.ensures.value ∙ ap the_row (sym (value-in (probe_key c.args.probe) c.self.inside.runs.items c.locate-at.result c.index_mut.result.now here)) ∙ ap (row_of (probe_key c.args.probe)) same

pub returns-clause-pairs : goal.returns-clause-pairs
returns-clause-pairs c =
    let same : joined c.self.inside.runs.items ≡ c.args.self.now.pairs = ap (λ (m : Mapped (Option (List Datum))). m.pairs) c.self.view_is in
    let some : 0 < length c.self.inside.runs.items = search rules in
    let here : IsIn (probe_key c.args.probe) c.self.inside.runs.items c.locate-at.result =
    subst (λ l. IsIn (probe_key c.args.probe) l c.locate-at.result) c.as_slice.ensures.value (c.locate-at.ensures (subst (λ l. 0 < length l) (sym c.as_slice.ensures.value) some)) in
    let e : joined (set c.self.inside.runs.items c.locate-at.result c.take_row.new.self) ≡ with_value (probe_key c.args.probe) None (joined c.self.inside.runs.items) =
    ap (λ r. joined (set c.self.inside.runs.items c.locate-at.result r)) (c.take_row.ensures.pairs ∙ ap (with_value (probe_key c.args.probe) None) c.index_mut.ensures.value) ∙ with_value-in (probe_key c.args.probe) c.self.inside.runs.items c.locate-at.result c.index_mut.result.now here None in
    e ∙ ap (with_value (probe_key c.args.probe) None) same

pub returns-clause-ordered : goal.returns-clause-ordered
returns-clause-ordered c =
    let some : 0 < length c.self.inside.runs.items = search rules in
    let here : IsIn (probe_key c.args.probe) c.self.inside.runs.items c.locate-at.result =
    subst (λ l. IsIn (probe_key c.args.probe) l c.locate-at.result) c.as_slice.ensures.value (c.locate-at.ensures (subst (λ l. 0 < length l) (sym c.as_slice.ensures.value) some)) in
    let e : joined (set c.self.inside.runs.items c.locate-at.result c.take_row.new.self) ≡ with_value (probe_key c.args.probe) None (joined c.self.inside.runs.items) =
    ap (λ r. joined (set c.self.inside.runs.items c.locate-at.result r)) (c.take_row.ensures.pairs ∙ ap (with_value (probe_key c.args.probe) None) c.index_mut.ensures.value) ∙ with_value-in (probe_key c.args.probe) c.self.inside.runs.items c.locate-at.result c.index_mut.result.now here None in
    subst AreAscending (sym e) (ascending-with_value (probe_key c.args.probe) None (joined c.self.inside.runs.items) c.self.invariant.0)
