use Rattle.std.proofs.Common.{◌≡◌, ◌<◌, List, length, set, ap, sym, subst, ◌∙◌, rules, Some}
use Rattle.psm_value.specs.declared.datum.Datum.{Datum}
use Rattle.psm_table.specs.Held.{row_of, the_row}
use Rattle.psm_table.specs.Map.{with_value, AreAscending}
use Rattle.psm_table.specs.Mapped.{Mapped}
use Rattle.psm_table.specs.PairPosition.{StandsAt}
use Rattle.psm_table.specs.Runs.{joined, IsRun}
use Rattle.std.specs.Prelude.{Option}
use Rattle.std.proofs.lemmas.List.Elements.{All-set}
use Rattle.psm_table.proofs.Joined.{ascending-with_value, run_exchanged, stands_in, value-in, with_value-in}
use Rattle.psm_table.proofs.map.OrderedMap+Option+Row.replace_at.Goals as goal

pub index_mut-requires : goal.index_mut-requires
index_mut-requires c =
    let stands = subst (λ l. StandsAt c.requires.0 l c.args.position) (sym (ap (λ (m : Mapped (Option (List Datum))). m.runs) c.self.view_is)) c.requires.1 in
    let inside : c.args.position.run < length c.self.inside.runs.items = stands.run.inside in
    search rules

pub replace_at-requires : goal.replace_at-requires
replace_at-requires c =
    let stands = subst (λ l. StandsAt c.requires.0 l c.args.position) (sym (ap (λ (m : Mapped (Option (List Datum))). m.runs) c.self.view_is)) c.requires.1 in
    (stands_in c.requires.0 c.self.inside.runs.items c.args.position c.index_mut.result.now stands c.index_mut.ensures.value).inside

pub invariant_of-self : goal.invariant_of-self
invariant_of-self c =
    let key = c.requires.0 in
    let stands = subst (λ l. StandsAt key l c.args.position) (sym (ap (λ (m : Mapped (Option (List Datum))). m.runs) c.self.view_is)) c.requires.1 in
    let pairs = c.replace_at.ensures.pairs key (stands_in key c.self.inside.runs.items c.args.position c.index_mut.result.now stands c.index_mut.ensures.value) in
    let e : joined (set c.self.inside.runs.items c.args.position.run c.replace_at.new.self) ≡ with_value key (Some c.args.row) (joined c.self.inside.runs.items) =
    ap (λ r. joined (set c.self.inside.runs.items c.args.position.run r)) (pairs ∙ ap (with_value key (Some c.args.row)) c.index_mut.ensures.value) ∙ with_value-in key c.self.inside.runs.items c.args.position.run c.index_mut.result.now stands.run (Some c.args.row) in
    let was : IsRun c.index_mut.result.now = subst IsRun (sym c.index_mut.ensures.value) (c.self.invariant.1 c.args.position.run c.index_mut.result.now stands.run.inside) in (
      subst AreAscending (sym e) (ascending-with_value key (Some c.args.row) (joined c.self.inside.runs.items) c.self.invariant.0),
      All-set IsRun c.self.inside.runs.items c.args.position.run c.replace_at.new.self (run_exchanged key (Some c.args.row) c.replace_at.new.self c.index_mut.result.now was pairs) c.self.invariant.1,
      c.self.invariant.2,
      c.self.invariant.3,
    )

pub returns-clause-row : goal.returns-clause-row
returns-clause-row c key h =
    let stands = subst (λ l. StandsAt key l c.args.position) (sym (ap (λ (m : Mapped (Option (List Datum))). m.runs) c.self.view_is)) h in
    c.replace_at.ensures.row key (stands_in key c.self.inside.runs.items c.args.position c.index_mut.result.now stands c.index_mut.ensures.value)
    ∙ ap (row_of key) c.index_mut.ensures.value
    ∙ ap the_row (sym (value-in key c.self.inside.runs.items c.args.position.run c.index_mut.result.now stands.run))
    ∙ ap (λ (m : Mapped (Option (List Datum))). row_of key m.pairs) c.self.view_is

pub returns-clause-pairs : goal.returns-clause-pairs
returns-clause-pairs c key h =
    let stands = subst (λ l. StandsAt key l c.args.position) (sym (ap (λ (m : Mapped (Option (List Datum))). m.runs) c.self.view_is)) h in
    let pairs = c.replace_at.ensures.pairs key (stands_in key c.self.inside.runs.items c.args.position c.index_mut.result.now stands c.index_mut.ensures.value) in
    ap (λ r. joined (set c.self.inside.runs.items c.args.position.run r)) (pairs ∙ ap (with_value key (Some c.args.row)) c.index_mut.ensures.value)
    ∙ with_value-in key c.self.inside.runs.items c.args.position.run c.index_mut.result.now stands.run (Some c.args.row)
    ∙ ap (λ (m : Mapped (Option (List Datum))). with_value key (Some c.args.row) m.pairs) c.self.view_is

pub returns-clause-ordered : goal.returns-clause-ordered
returns-clause-ordered c =
    let key = c.requires.0 in
    let stands = subst (λ l. StandsAt key l c.args.position) (sym (ap (λ (m : Mapped (Option (List Datum))). m.runs) c.self.view_is)) c.requires.1 in
    let pairs = c.replace_at.ensures.pairs key (stands_in key c.self.inside.runs.items c.args.position c.index_mut.result.now stands c.index_mut.ensures.value) in
    let e : joined (set c.self.inside.runs.items c.args.position.run c.replace_at.new.self) ≡ with_value key (Some c.args.row) (joined c.self.inside.runs.items) =
    ap (λ r. joined (set c.self.inside.runs.items c.args.position.run r)) (pairs ∙ ap (with_value key (Some c.args.row)) c.index_mut.ensures.value) ∙ with_value-in key c.self.inside.runs.items c.args.position.run c.index_mut.result.now stands.run (Some c.args.row) in
    subst AreAscending (sym e) (ascending-with_value key (Some c.args.row) (joined c.self.inside.runs.items) c.self.invariant.0)
