use Rattle.std.proofs.Common.{◌≡◌, ℕ, ◌<◌, List, length, Some, None, true, refl, ap, sym, subst, ◌∙◌}
use Rattle.std.specs.Prelude.{IsSome}
use Rattle.psm_value.specs.declared.datum.Datum.{Datum}
use Rattle.psm_table.specs.Definition.{IsRow}
use Rattle.psm_table.specs.Held.{contents_of, entries_of, row_of, state_of, IsEntered}
use Rattle.psm_table.specs.Key.{values_at}
use Rattle.psm_table.specs.Map.{value_of, with_value}
use Rattle.psm_table.specs.State.{has_key, IsTidy, State, StillKeeps}
use Rattle.psm_table.specs.Table.{most_rows, namesake, with_row}
use Rattle.psm_table.proofs.Counts.{tidy-same}
use Rattle.psm_table.proofs.Holds.{counted-again, state-same, tidy-again, contents-put, held-again, keeps-put, room-again, some_from}
use Rattle.psm_table.proofs.Keys.{has_value}
use Rattle.psm_table.proofs.Tables.{held-find}
use Rattle.psm_table.proofs.table.Table.insert_again.Goals as goal

pub replace_row-none-requires-clause-slot : goal.replace_row-none-requires-clause-slot
replace_row-none-requires-clause-slot g c =
    let slot : IsSome (value_of (values_at c.self.inside.def.key c.args.row) c.self.inside.rows.pairs) =
    some_from (value_of (values_at c.self.inside.def.key c.args.row) c.self.inside.rows.pairs) (has_value (values_at c.self.inside.def.key c.args.row) c.self.inside.rows.pairs ∙ subst (λ (s : State). has_key s.slots (values_at s.contents.def.key c.args.row) ≡ true) (sym c.self.view_is) c.requires.slot) in
    subst (λ (k : List ℕ). IsSome (value_of (values_at k c.args.row) c.self.inside.rows.pairs)) (sym c.items.ensures) slot

pub invariant_of-self-2 : goal.invariant_of-self-2
invariant_of-self-2 g c =
    let fits : IsRow c.self.inside.def c.args.row = subst (λ (s : State). IsRow s.contents.def c.args.row) (sym c.self.view_is) c.requires.fits in
    let slot : IsSome (value_of (values_at c.self.inside.def.key c.args.row) c.self.inside.rows.pairs) =
    some_from (value_of (values_at c.self.inside.def.key c.args.row) c.self.inside.rows.pairs) (has_value (values_at c.self.inside.def.key c.args.row) c.self.inside.rows.pairs ∙ subst (λ (s : State). has_key s.slots (values_at s.contents.def.key c.args.row) ≡ true) (sym c.self.view_is) c.requires.slot) in
    let none : row_of (values_at c.self.inside.def.key c.args.row) c.self.inside.rows.pairs ≡ None =
    held-find c.self.inside.def c.self.inside.lists.items c.self.inside.rows c.self.inside.live c.self.inside.indexes.items c.self.invariant.0 (values_at c.self.inside.def.key c.args.row) ∙ subst (λ (s : State). namesake s.contents c.args.row ≡ None) (sym c.self.view_is) c.requires.absent in
    let room : length (contents_of c.self.inside.def c.self.inside.rows).rows < most_rows = subst (λ (s : State). length s.contents.rows < most_rows) (sym c.self.view_is) c.requires.room in
    let e : c.replace_row-none.new.self.pairs ≡ with_value (values_at c.self.inside.def.key c.args.row) (Some c.args.row) c.self.inside.rows.pairs =
    c.replace_row-none.ensures.pairs ∙ ap (λ (k : List ℕ). with_value (values_at k c.args.row) (Some c.args.row) c.self.inside.rows.pairs) c.items.ensures in
    let entered : IsEntered c.self.inside.def c.self.inside.lists.items (entries_of c.enter.new.indexes.items) c.args.row = subst (λ (r : List Datum). IsEntered c.self.inside.def c.self.inside.lists.items (entries_of c.enter.new.indexes.items) r) c.values.ensures (subst (λ (ls : List (List ℕ)). IsEntered c.self.inside.def ls (entries_of c.enter.new.indexes.items) c.values.result.now) c.as_slice.ensures.value c.in_ok-enter.ensures.entered) in (
      held-again c.self.inside.def c.self.inside.lists.items c.self.inside.rows c.self.inside.live c.self.inside.indexes.items c.self.invariant.0 c.args.row c.replace_row-none.new.self c.enter.new.indexes.items fits slot e c.enter.ensures.lists c.enter.ensures.grow entered c.replace_row-none.ensures.ordered none (room-again c.self.inside.def c.self.inside.lists.items c.self.inside.rows c.self.inside.live c.self.inside.indexes.items c.self.invariant.0 c.args.row c.replace_row-none.new.self c.enter.new.indexes.items fits slot e c.enter.ensures.lists c.enter.ensures.grow entered c.replace_row-none.ensures.ordered none room),
      counted-again c.self.inside.def c.self.inside.lists.items c.self.inside.rows c.self.inside.live c.self.inside.indexes.items c.self.invariant.0 c.args.row c.replace_row-none.new.self c.enter.new.indexes.items fits slot e c.enter.ensures.lists c.enter.ensures.grow entered c.replace_row-none.ensures.ordered none c.enter.ensures.one c.self.inside.left c.self.invariant.1,
    )

pub returns-clause-answer : goal.returns-clause-answer
returns-clause-answer g c =
    let fits : IsRow c.self.inside.def c.args.row = subst (λ (s : State). IsRow s.contents.def c.args.row) (sym c.self.view_is) c.requires.fits in
    let slot : IsSome (value_of (values_at c.self.inside.def.key c.args.row) c.self.inside.rows.pairs) =
    some_from (value_of (values_at c.self.inside.def.key c.args.row) c.self.inside.rows.pairs) (has_value (values_at c.self.inside.def.key c.args.row) c.self.inside.rows.pairs ∙ subst (λ (s : State). has_key s.slots (values_at s.contents.def.key c.args.row) ≡ true) (sym c.self.view_is) c.requires.slot) in
    let e : c.replace_row-none.new.self.pairs ≡ with_value (values_at c.self.inside.def.key c.args.row) (Some c.args.row) c.self.inside.rows.pairs =
    c.replace_row-none.ensures.pairs ∙ ap (λ (k : List ℕ). with_value (values_at k c.args.row) (Some c.args.row) c.self.inside.rows.pairs) c.items.ensures in
    let entered : IsEntered c.self.inside.def c.self.inside.lists.items (entries_of c.enter.new.indexes.items) c.args.row = subst (λ (r : List Datum). IsEntered c.self.inside.def c.self.inside.lists.items (entries_of c.enter.new.indexes.items) r) c.values.ensures (subst (λ (ls : List (List ℕ)). IsEntered c.self.inside.def ls (entries_of c.enter.new.indexes.items) c.values.result.now) c.as_slice.ensures.value c.in_ok-enter.ensures.entered) in
    (c.requires.room, c.requires.absent, contents-put c.self.inside.def c.self.inside.lists.items c.self.inside.rows c.self.inside.live c.self.inside.indexes.items c.self.invariant.0 c.args.row c.replace_row-none.new.self c.enter.new.indexes.items fits slot e c.enter.ensures.lists c.enter.ensures.grow entered c.replace_row-none.ensures.ordered ∙ ap (λ (s : State). with_row s.contents c.args.row) c.self.view_is, c.tick.ensures)

pub returns-clause-keeps : goal.returns-clause-keeps
returns-clause-keeps g c =
    let fits : IsRow c.self.inside.def c.args.row = subst (λ (s : State). IsRow s.contents.def c.args.row) (sym c.self.view_is) c.requires.fits in
    let slot : IsSome (value_of (values_at c.self.inside.def.key c.args.row) c.self.inside.rows.pairs) =
    some_from (value_of (values_at c.self.inside.def.key c.args.row) c.self.inside.rows.pairs) (has_value (values_at c.self.inside.def.key c.args.row) c.self.inside.rows.pairs ∙ subst (λ (s : State). has_key s.slots (values_at s.contents.def.key c.args.row) ≡ true) (sym c.self.view_is) c.requires.slot) in
    let e : c.replace_row-none.new.self.pairs ≡ with_value (values_at c.self.inside.def.key c.args.row) (Some c.args.row) c.self.inside.rows.pairs =
    c.replace_row-none.ensures.pairs ∙ ap (λ (k : List ℕ). with_value (values_at k c.args.row) (Some c.args.row) c.self.inside.rows.pairs) c.items.ensures in
    let entered : IsEntered c.self.inside.def c.self.inside.lists.items (entries_of c.enter.new.indexes.items) c.args.row = subst (λ (r : List Datum). IsEntered c.self.inside.def c.self.inside.lists.items (entries_of c.enter.new.indexes.items) r) c.values.ensures (subst (λ (ls : List (List ℕ)). IsEntered c.self.inside.def ls (entries_of c.enter.new.indexes.items) c.values.result.now) c.as_slice.ensures.value c.in_ok-enter.ensures.entered) in
    subst (λ s. StillKeeps s (state_of c.self.inside.def c.self.inside.lists.items c.replace_row-none.new.self c.enter.new.indexes.items)) c.self.view_is (keeps-put c.self.inside.def c.self.inside.lists.items c.self.inside.rows c.self.inside.live c.self.inside.indexes.items c.self.invariant.0 c.args.row c.replace_row-none.new.self c.enter.new.indexes.items fits slot e c.enter.ensures.lists c.enter.ensures.grow entered c.replace_row-none.ensures.ordered)

pub returns-in_err-enter-clause-tidy : goal.returns-in_err-enter-clause-tidy
returns-in_err-enter-clause-tidy g c =
    tidy-same c.args.self.now (state_of c.self.inside.def c.self.inside.lists.items c.self.inside.rows c.enter.new.indexes.items)
    (state-same c.self.inside.def c.self.inside.lists.items c.self.inside.rows c.self.inside.rows c.self.inside.indexes.items c.enter.new.indexes.items refl c.in_err-enter.ensures.refused ∙ c.self.view_is)

pub returns-clause-tidy : goal.returns-clause-tidy
returns-clause-tidy g c tidy =
    let fits : IsRow c.self.inside.def c.args.row = subst (λ (s : State). IsRow s.contents.def c.args.row) (sym c.self.view_is) c.requires.fits in
    let slot : IsSome (value_of (values_at c.self.inside.def.key c.args.row) c.self.inside.rows.pairs) =
    some_from (value_of (values_at c.self.inside.def.key c.args.row) c.self.inside.rows.pairs) (has_value (values_at c.self.inside.def.key c.args.row) c.self.inside.rows.pairs ∙ subst (λ (s : State). has_key s.slots (values_at s.contents.def.key c.args.row) ≡ true) (sym c.self.view_is) c.requires.slot) in
    let none : row_of (values_at c.self.inside.def.key c.args.row) c.self.inside.rows.pairs ≡ None =
    held-find c.self.inside.def c.self.inside.lists.items c.self.inside.rows c.self.inside.live c.self.inside.indexes.items c.self.invariant.0 (values_at c.self.inside.def.key c.args.row) ∙ subst (λ (s : State). namesake s.contents c.args.row ≡ None) (sym c.self.view_is) c.requires.absent in
    let e : c.replace_row-none.new.self.pairs ≡ with_value (values_at c.self.inside.def.key c.args.row) (Some c.args.row) c.self.inside.rows.pairs =
    c.replace_row-none.ensures.pairs ∙ ap (λ (k : List ℕ). with_value (values_at k c.args.row) (Some c.args.row) c.self.inside.rows.pairs) c.items.ensures in
    let entered : IsEntered c.self.inside.def c.self.inside.lists.items (entries_of c.enter.new.indexes.items) c.args.row = subst (λ (r : List Datum). IsEntered c.self.inside.def c.self.inside.lists.items (entries_of c.enter.new.indexes.items) r) c.values.ensures (subst (λ (ls : List (List ℕ)). IsEntered c.self.inside.def ls (entries_of c.enter.new.indexes.items) c.values.result.now) c.as_slice.ensures.value c.in_ok-enter.ensures.entered) in
    tidy-again c.self.inside.def c.self.inside.lists.items c.self.inside.rows c.self.inside.live c.self.inside.indexes.items c.self.invariant.0 c.args.row c.replace_row-none.new.self c.enter.new.indexes.items fits slot e c.enter.ensures.lists c.enter.ensures.grow entered c.replace_row-none.ensures.ordered none c.enter.ensures.one (subst IsTidy (sym c.self.view_is) tidy)
