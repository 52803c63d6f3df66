use Rattle.std.proofs.Common.{◌≡◌, ℕ, ◌<◌, List, length, Some, None, false, refl, ap, sym, subst, ◌∙◌}
use Rattle.psm_value.specs.declared.datum.Datum.{Datum}
use Rattle.psm_table.specs.Definition.{IsRow}
use Rattle.psm_table.specs.Held.{contents_of, entries_of, state_of, IsEntered}
use Rattle.psm_table.specs.Key.{values_at}
use Rattle.psm_table.specs.Map.{value_of, with_pair}
use Rattle.psm_table.specs.State.{has_key, IsTidy, State, StillKeeps}
use Rattle.psm_table.specs.Table.{most_rows, namesake, with_row}
use Rattle.psm_table.specs.Held.{the_row}
use Rattle.psm_table.proofs.Entered.{none_there}
use Rattle.psm_table.proofs.Counts.{tidy-same}
use Rattle.psm_table.proofs.Holds.{counted-first, tidy-first, contents-first, held-first, keeps-first, keeps-same, state-same}
use Rattle.psm_table.proofs.Tables.{held-find}
use Rattle.psm_table.proofs.table.Table.insert_first.Goals as goal

pub returns-in_err-reserve-clause-keeps : goal.returns-in_err-reserve-clause-keeps
returns-in_err-reserve-clause-keeps g c =
    keeps-same c.args.self.now (state_of c.self.inside.def c.self.inside.lists.items c.reserve.new.self c.self.inside.indexes.items) (state-same c.self.inside.def c.self.inside.lists.items c.self.inside.rows c.reserve.new.self c.self.inside.indexes.items c.self.inside.indexes.items c.reserve.ensures.pairs refl ∙ c.self.view_is)

pub returns-in_err-enter-clause-keeps : goal.returns-in_err-enter-clause-keeps
returns-in_err-enter-clause-keeps g c =
    keeps-same c.args.self.now (state_of c.self.inside.def c.self.inside.lists.items c.reserve.new.self c.enter.new.indexes.items) (state-same c.self.inside.def c.self.inside.lists.items c.self.inside.rows c.reserve.new.self c.self.inside.indexes.items c.enter.new.indexes.items c.reserve.ensures.pairs c.in_err-enter.ensures.refused ∙ c.self.view_is)

pub invariant_of-self-2 : goal.invariant_of-self-2
invariant_of-self-2 g c =
    let fits : IsRow c.self.inside.def c.args.row = subst (λ (s : State). IsRow s.contents.def c.args.row) (sym c.self.view_is) c.requires.fits in
    let room : length (contents_of c.self.inside.def c.self.inside.rows).rows < most_rows = subst (λ (s : State). length s.contents.rows < most_rows) (sym c.self.view_is) c.requires.room in
    let key : c.in_ok-key.key ≡ values_at c.self.inside.def.key c.args.row = c.in_ok-key.ensures ∙ ap (λ (k : List ℕ). values_at k c.args.row) c.items.ensures in
    let absent : value_of (values_at c.self.inside.def.key c.args.row) c.self.inside.rows.pairs ≡ None =
    none_there (values_at c.self.inside.def.key c.args.row) c.self.inside.rows.pairs (subst (λ (s : State). has_key s.slots (values_at s.contents.def.key c.args.row) ≡ false) (sym c.self.view_is) c.requires.absent) in
    let e : c.insert.new.self.pairs ≡ with_pair (record { key = values_at c.self.inside.def.key c.args.row; value = Some c.args.row }) c.self.inside.rows.pairs =
    c.insert.ensures.pairs ∙ ap (λ k. with_pair (record { key = k; value = Some c.args.row }) c.reserve.new.self.pairs) key
    ∙ ap (with_pair (record { key = values_at c.self.inside.def.key c.args.row; value = Some c.args.row })) c.reserve.ensures.pairs in
    let entered : IsEntered c.self.inside.def c.self.inside.lists.items (entries_of c.enter.new.indexes.items) c.args.row = subst (λ (r : List Datum). IsEntered c.self.inside.def c.self.inside.lists.items (entries_of c.enter.new.indexes.items) r) c.values.ensures (subst (λ (ls : List (List ℕ)). IsEntered c.self.inside.def ls (entries_of c.enter.new.indexes.items) c.values.result.now) c.as_slice.ensures.value c.in_ok-enter.ensures.entered) in (
      held-first c.self.inside.def c.self.inside.lists.items c.self.inside.rows c.self.inside.live c.self.inside.indexes.items c.self.invariant.0 c.args.row c.insert.new.self c.enter.new.indexes.items fits absent e c.enter.ensures.lists c.enter.ensures.grow entered c.insert.ensures.ordered room,
      counted-first c.self.inside.def c.self.inside.lists.items c.self.inside.rows c.self.inside.live c.self.inside.indexes.items c.self.invariant.0 c.args.row c.insert.new.self c.enter.new.indexes.items fits absent e c.enter.ensures.lists c.enter.ensures.grow entered c.insert.ensures.ordered c.enter.ensures.one c.self.inside.left c.self.invariant.1,
    )

pub returns-clause-answer : goal.returns-clause-answer
returns-clause-answer g c =
    let fits : IsRow c.self.inside.def c.args.row = subst (λ (s : State). IsRow s.contents.def c.args.row) (sym c.self.view_is) c.requires.fits in
    let key : c.in_ok-key.key ≡ values_at c.self.inside.def.key c.args.row = c.in_ok-key.ensures ∙ ap (λ (k : List ℕ). values_at k c.args.row) c.items.ensures in
    let absent : value_of (values_at c.self.inside.def.key c.args.row) c.self.inside.rows.pairs ≡ None =
    none_there (values_at c.self.inside.def.key c.args.row) c.self.inside.rows.pairs (subst (λ (s : State). has_key s.slots (values_at s.contents.def.key c.args.row) ≡ false) (sym c.self.view_is) c.requires.absent) in
    let e : c.insert.new.self.pairs ≡ with_pair (record { key = values_at c.self.inside.def.key c.args.row; value = Some c.args.row }) c.self.inside.rows.pairs =
    c.insert.ensures.pairs ∙ ap (λ k. with_pair (record { key = k; value = Some c.args.row }) c.reserve.new.self.pairs) key
    ∙ ap (with_pair (record { key = values_at c.self.inside.def.key c.args.row; value = Some c.args.row })) c.reserve.ensures.pairs in
    let entered : IsEntered c.self.inside.def c.self.inside.lists.items (entries_of c.enter.new.indexes.items) c.args.row = subst (λ (r : List Datum). IsEntered c.self.inside.def c.self.inside.lists.items (entries_of c.enter.new.indexes.items) r) c.values.ensures (subst (λ (ls : List (List ℕ)). IsEntered c.self.inside.def ls (entries_of c.enter.new.indexes.items) c.values.result.now) c.as_slice.ensures.value c.in_ok-enter.ensures.entered) in
    let missing : namesake c.args.self.now.contents c.args.row ≡ None =
    subst (λ (s : State). namesake s.contents c.args.row ≡ None) c.self.view_is (sym (held-find c.self.inside.def c.self.inside.lists.items c.self.inside.rows c.self.inside.live c.self.inside.indexes.items c.self.invariant.0 (values_at c.self.inside.def.key c.args.row)) ∙ ap the_row absent) in
    (c.requires.room, missing, contents-first c.self.inside.def c.self.inside.lists.items c.self.inside.rows c.self.inside.live c.self.inside.indexes.items c.self.invariant.0 c.args.row c.insert.new.self c.enter.new.indexes.items fits absent e c.enter.ensures.lists c.enter.ensures.grow entered c.insert.ensures.ordered ∙ ap (λ (s : State). with_row s.contents c.args.row) c.self.view_is, c.tick.ensures)

pub returns-clause-keeps : goal.returns-clause-keeps
returns-clause-keeps g c =
    let fits : IsRow c.self.inside.def c.args.row = subst (λ (s : State). IsRow s.contents.def c.args.row) (sym c.self.view_is) c.requires.fits in
    let key : c.in_ok-key.key ≡ values_at c.self.inside.def.key c.args.row = c.in_ok-key.ensures ∙ ap (λ (k : List ℕ). values_at k c.args.row) c.items.ensures in
    let absent : value_of (values_at c.self.inside.def.key c.args.row) c.self.inside.rows.pairs ≡ None =
    none_there (values_at c.self.inside.def.key c.args.row) c.self.inside.rows.pairs (subst (λ (s : State). has_key s.slots (values_at s.contents.def.key c.args.row) ≡ false) (sym c.self.view_is) c.requires.absent) in
    let e : c.insert.new.self.pairs ≡ with_pair (record { key = values_at c.self.inside.def.key c.args.row; value = Some c.args.row }) c.self.inside.rows.pairs =
    c.insert.ensures.pairs ∙ ap (λ k. with_pair (record { key = k; value = Some c.args.row }) c.reserve.new.self.pairs) key
    ∙ ap (with_pair (record { key = values_at c.self.inside.def.key c.args.row; value = Some c.args.row })) c.reserve.ensures.pairs in
    let entered : IsEntered c.self.inside.def c.self.inside.lists.items (entries_of c.enter.new.indexes.items) c.args.row = subst (λ (r : List Datum). IsEntered c.self.inside.def c.self.inside.lists.items (entries_of c.enter.new.indexes.items) r) c.values.ensures (subst (λ (ls : List (List ℕ)). IsEntered c.self.inside.def ls (entries_of c.enter.new.indexes.items) c.values.result.now) c.as_slice.ensures.value c.in_ok-enter.ensures.entered) in
    subst (λ s. StillKeeps s (state_of c.self.inside.def c.self.inside.lists.items c.insert.new.self c.enter.new.indexes.items)) c.self.view_is (keeps-first c.self.inside.def c.self.inside.lists.items c.self.inside.rows c.self.inside.live c.self.inside.indexes.items c.self.invariant.0 c.args.row c.insert.new.self c.enter.new.indexes.items fits absent e c.enter.ensures.lists c.enter.ensures.grow entered c.insert.ensures.ordered)

pub returns-in_err-reserve-clause-tidy : goal.returns-in_err-reserve-clause-tidy
returns-in_err-reserve-clause-tidy g c =
    tidy-same c.args.self.now (state_of c.self.inside.def c.self.inside.lists.items c.reserve.new.self c.self.inside.indexes.items)
    (state-same c.self.inside.def c.self.inside.lists.items c.self.inside.rows c.reserve.new.self c.self.inside.indexes.items c.self.inside.indexes.items c.reserve.ensures.pairs refl ∙ c.self.view_is)

pub returns-in_err-enter-clause-tidy : goal.returns-in_err-enter-clause-tidy
returns-in_err-enter-clause-tidy g c =
    tidy-same c.args.self.now (state_of c.self.inside.def c.self.inside.lists.items c.reserve.new.self c.enter.new.indexes.items)
    (state-same c.self.inside.def c.self.inside.lists.items c.self.inside.rows c.reserve.new.self c.self.inside.indexes.items c.enter.new.indexes.items c.reserve.ensures.pairs c.in_err-enter.ensures.refused ∙ c.self.view_is)

pub returns-clause-tidy : goal.returns-clause-tidy
returns-clause-tidy g c tidy =
    let fits : IsRow c.self.inside.def c.args.row = subst (λ (s : State). IsRow s.contents.def c.args.row) (sym c.self.view_is) c.requires.fits in
    let key : c.in_ok-key.key ≡ values_at c.self.inside.def.key c.args.row = c.in_ok-key.ensures ∙ ap (λ (k : List ℕ). values_at k c.args.row) c.items.ensures in
    let absent : value_of (values_at c.self.inside.def.key c.args.row) c.self.inside.rows.pairs ≡ None =
    none_there (values_at c.self.inside.def.key c.args.row) c.self.inside.rows.pairs (subst (λ (s : State). has_key s.slots (values_at s.contents.def.key c.args.row) ≡ false) (sym c.self.view_is) c.requires.absent) in
    let e : c.insert.new.self.pairs ≡ with_pair (record { key = values_at c.self.inside.def.key c.args.row; value = Some c.args.row }) c.self.inside.rows.pairs =
    c.insert.ensures.pairs ∙ ap (λ k. with_pair (record { key = k; value = Some c.args.row }) c.reserve.new.self.pairs) key
    ∙ ap (with_pair (record { key = values_at c.self.inside.def.key c.args.row; value = Some c.args.row })) c.reserve.ensures.pairs in
    let entered : IsEntered c.self.inside.def c.self.inside.lists.items (entries_of c.enter.new.indexes.items) c.args.row = subst (λ (r : List Datum). IsEntered c.self.inside.def c.self.inside.lists.items (entries_of c.enter.new.indexes.items) r) c.values.ensures (subst (λ (ls : List (List ℕ)). IsEntered c.self.inside.def ls (entries_of c.enter.new.indexes.items) c.values.result.now) c.as_slice.ensures.value c.in_ok-enter.ensures.entered) in
    tidy-first c.self.inside.def c.self.inside.lists.items c.self.inside.rows c.self.inside.live c.self.inside.indexes.items c.self.invariant.0 c.args.row c.insert.new.self c.enter.new.indexes.items fits absent e c.enter.ensures.lists c.enter.ensures.grow entered c.insert.ensures.ordered c.enter.ensures.one (subst IsTidy (sym c.self.view_is) tidy)
