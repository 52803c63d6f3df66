use Rattle.std.proofs.Common.{◌≡◌, ℕ, ◌≤◌, List, length, None, Some, refl, ap, sym, subst, ◌∙◌}
use Rattle.std.specs.Prelude.{IsSome}
use Rattle.psm_table.specs.Definition.{IsRow}
use Rattle.psm_table.specs.Held.{contents_of, entries_of, row_of, state_of}
use Rattle.psm_table.specs.Key.{values_at}
use Rattle.psm_table.specs.Map.{value_of, with_value}
use Rattle.psm_table.specs.State.{KeepsRow, State, StillKeeps}
use Rattle.psm_table.specs.Table.{most_rows, with_row}
use Rattle.std.specs.Prelude.{not}
use Rattle.psm_table.proofs.Entered.{one-same, grow-same, no_value}
use Rattle.psm_table.proofs.Holds.{counted-again, counted-back, contents-put, held-again, held-over, keeps-put, some_from, some_is}
use Rattle.psm_table.proofs.Keys.{has_value}
use Rattle.psm_table.proofs.table.Table.revive.Goals as goal

pub replace_row-requires-clause-slot : goal.replace_row-requires-clause-slot
replace_row-requires-clause-slot g c =
    let kept : KeepsRow (state_of c.self.inside.def c.self.inside.lists.items c.self.inside.rows c.self.inside.indexes.items) c.args.row = subst (λ (s : State). KeepsRow s c.args.row) (sym c.self.view_is) c.requires.kept in
    let slot : IsSome (value_of (values_at c.self.inside.def.key c.args.row) c.self.inside.rows.pairs) = some_from (value_of (values_at c.self.inside.def.key c.args.row) c.self.inside.rows.pairs) (has_value (values_at c.self.inside.def.key c.args.row) c.self.inside.rows.pairs ∙ kept.slot) in
    subst (λ (k : List ℕ). IsSome (value_of (values_at k c.args.row) c.self.inside.rows.pairs)) (sym c.items.ensures) slot

pub invariant_of-self : goal.invariant_of-self
invariant_of-self g c =
    let fits : IsRow c.self.inside.def c.args.row = subst (λ (s : State). IsRow s.contents.def c.args.row) (sym c.self.view_is) c.requires.fits in
    let kept : KeepsRow (state_of c.self.inside.def c.self.inside.lists.items c.self.inside.rows c.self.inside.indexes.items) c.args.row = subst (λ (s : State). KeepsRow s c.args.row) (sym c.self.view_is) c.requires.kept in
    let slot : IsSome (value_of (values_at c.self.inside.def.key c.args.row) c.self.inside.rows.pairs) = some_from (value_of (values_at c.self.inside.def.key c.args.row) c.self.inside.rows.pairs) (has_value (values_at c.self.inside.def.key c.args.row) c.self.inside.rows.pairs ∙ kept.slot) in
    let e : c.replace_row.new.self.pairs ≡ with_value (values_at c.self.inside.def.key c.args.row) (Some c.args.row) c.self.inside.rows.pairs =
    c.replace_row.ensures.pairs ∙ ap (λ (k : List ℕ). with_value (values_at k c.args.row) (Some c.args.row) c.self.inside.rows.pairs) c.items.ensures in
    let res : c.replace_row.result ≡ row_of (values_at c.self.inside.def.key c.args.row) c.self.inside.rows.pairs = c.replace_row.ensures.row ∙ ap (λ (k : List ℕ). row_of (values_at k c.args.row) c.self.inside.rows.pairs) c.items.ensures in
    let room : length (with_row (contents_of c.self.inside.def c.self.inside.rows) c.args.row).rows ≤ most_rows = subst (λ (s : State). length (with_row s.contents c.args.row).rows ≤ most_rows) (sym c.self.view_is) c.requires.room in
    let none : row_of (values_at c.self.inside.def.key c.args.row) c.self.inside.rows.pairs ≡ None = sym res ∙ no_value c.replace_row.result (c.is_none.ensures ∙ ap not c.if-is_none.true) in (
      held-again c.self.inside.def c.self.inside.lists.items c.self.inside.rows c.self.inside.live c.self.inside.indexes.items c.self.invariant.0 c.args.row c.replace_row.new.self c.self.inside.indexes.items fits slot e refl (grow-same (entries_of c.self.inside.indexes.items) (entries_of c.self.inside.indexes.items) refl) kept.entries c.replace_row.ensures.ordered none room,
      counted-again c.self.inside.def c.self.inside.lists.items c.self.inside.rows c.self.inside.live c.self.inside.indexes.items c.self.invariant.0 c.args.row c.replace_row.new.self c.self.inside.indexes.items fits slot e refl (grow-same (entries_of c.self.inside.indexes.items) (entries_of c.self.inside.indexes.items) refl) kept.entries c.replace_row.ensures.ordered none (one-same (entries_of c.self.inside.indexes.items) (entries_of c.self.inside.indexes.items) refl) c.self.inside.left c.self.invariant.1,
    )

pub invariant_of-self-else-is_none : goal.invariant_of-self-else-is_none
invariant_of-self-else-is_none g c =
    let fits : IsRow c.self.inside.def c.args.row = subst (λ (s : State). IsRow s.contents.def c.args.row) (sym c.self.view_is) c.requires.fits in
    let kept : KeepsRow (state_of c.self.inside.def c.self.inside.lists.items c.self.inside.rows c.self.inside.indexes.items) c.args.row = subst (λ (s : State). KeepsRow s c.args.row) (sym c.self.view_is) c.requires.kept in
    let slot : IsSome (value_of (values_at c.self.inside.def.key c.args.row) c.self.inside.rows.pairs) = some_from (value_of (values_at c.self.inside.def.key c.args.row) c.self.inside.rows.pairs) (has_value (values_at c.self.inside.def.key c.args.row) c.self.inside.rows.pairs ∙ kept.slot) in
    let e : c.replace_row.new.self.pairs ≡ with_value (values_at c.self.inside.def.key c.args.row) (Some c.args.row) c.self.inside.rows.pairs =
    c.replace_row.ensures.pairs ∙ ap (λ (k : List ℕ). with_value (values_at k c.args.row) (Some c.args.row) c.self.inside.rows.pairs) c.items.ensures in
    let res : c.replace_row.result ≡ row_of (values_at c.self.inside.def.key c.args.row) c.self.inside.rows.pairs = c.replace_row.ensures.row ∙ ap (λ (k : List ℕ). row_of (values_at k c.args.row) c.self.inside.rows.pairs) c.items.ensures in
    let was = some_is c.replace_row.result (c.is_none.ensures ∙ ap not c.if-is_none.false) in (
      held-over c.self.inside.def c.self.inside.lists.items c.self.inside.rows c.self.inside.live c.self.inside.indexes.items c.self.invariant.0 c.args.row c.replace_row.new.self c.self.inside.indexes.items fits slot e refl (grow-same (entries_of c.self.inside.indexes.items) (entries_of c.self.inside.indexes.items) refl) kept.entries c.replace_row.ensures.ordered was.0 (sym res ∙ was.1),
      counted-back c.self.inside.def c.self.inside.lists.items c.self.inside.rows c.self.inside.live c.self.inside.indexes.items c.self.invariant.0 c.args.row c.replace_row.new.self c.self.inside.indexes.items fits slot e refl (grow-same (entries_of c.self.inside.indexes.items) (entries_of c.self.inside.indexes.items) refl) kept.entries c.replace_row.ensures.ordered was.0 (sym res ∙ was.1) refl c.self.inside.left c.self.invariant.1,
    )

pub returns-then-is_none-clause-rows : goal.returns-then-is_none-clause-rows
returns-then-is_none-clause-rows g c =
    let fits : IsRow c.self.inside.def c.args.row = subst (λ (s : State). IsRow s.contents.def c.args.row) (sym c.self.view_is) c.requires.fits in
    let kept : KeepsRow (state_of c.self.inside.def c.self.inside.lists.items c.self.inside.rows c.self.inside.indexes.items) c.args.row = subst (λ (s : State). KeepsRow s c.args.row) (sym c.self.view_is) c.requires.kept in
    let slot : IsSome (value_of (values_at c.self.inside.def.key c.args.row) c.self.inside.rows.pairs) = some_from (value_of (values_at c.self.inside.def.key c.args.row) c.self.inside.rows.pairs) (has_value (values_at c.self.inside.def.key c.args.row) c.self.inside.rows.pairs ∙ kept.slot) in
    let e : c.replace_row.new.self.pairs ≡ with_value (values_at c.self.inside.def.key c.args.row) (Some c.args.row) c.self.inside.rows.pairs =
    c.replace_row.ensures.pairs ∙ ap (λ (k : List ℕ). with_value (values_at k c.args.row) (Some c.args.row) c.self.inside.rows.pairs) c.items.ensures in
    contents-put c.self.inside.def c.self.inside.lists.items c.self.inside.rows c.self.inside.live c.self.inside.indexes.items c.self.invariant.0 c.args.row c.replace_row.new.self c.self.inside.indexes.items fits slot e refl (grow-same (entries_of c.self.inside.indexes.items) (entries_of c.self.inside.indexes.items) refl) kept.entries c.replace_row.ensures.ordered ∙ ap (λ (s : State). with_row s.contents c.args.row) c.self.view_is

pub returns-then-is_none-clause-keeps : goal.returns-then-is_none-clause-keeps
returns-then-is_none-clause-keeps g c =
    let fits : IsRow c.self.inside.def c.args.row = subst (λ (s : State). IsRow s.contents.def c.args.row) (sym c.self.view_is) c.requires.fits in
    let kept : KeepsRow (state_of c.self.inside.def c.self.inside.lists.items c.self.inside.rows c.self.inside.indexes.items) c.args.row = subst (λ (s : State). KeepsRow s c.args.row) (sym c.self.view_is) c.requires.kept in
    let slot : IsSome (value_of (values_at c.self.inside.def.key c.args.row) c.self.inside.rows.pairs) = some_from (value_of (values_at c.self.inside.def.key c.args.row) c.self.inside.rows.pairs) (has_value (values_at c.self.inside.def.key c.args.row) c.self.inside.rows.pairs ∙ kept.slot) in
    let e : c.replace_row.new.self.pairs ≡ with_value (values_at c.self.inside.def.key c.args.row) (Some c.args.row) c.self.inside.rows.pairs =
    c.replace_row.ensures.pairs ∙ ap (λ (k : List ℕ). with_value (values_at k c.args.row) (Some c.args.row) c.self.inside.rows.pairs) c.items.ensures in
    subst (λ s. StillKeeps s (state_of c.self.inside.def c.self.inside.lists.items c.replace_row.new.self c.self.inside.indexes.items)) c.self.view_is (keeps-put c.self.inside.def c.self.inside.lists.items c.self.inside.rows c.self.inside.live c.self.inside.indexes.items c.self.invariant.0 c.args.row c.replace_row.new.self c.self.inside.indexes.items fits slot e refl (grow-same (entries_of c.self.inside.indexes.items) (entries_of c.self.inside.indexes.items) refl) kept.entries c.replace_row.ensures.ordered)

pub returns-else-is_none-clause-rows : goal.returns-else-is_none-clause-rows
returns-else-is_none-clause-rows g c =
    let fits : IsRow c.self.inside.def c.args.row = subst (λ (s : State). IsRow s.contents.def c.args.row) (sym c.self.view_is) c.requires.fits in
    let kept : KeepsRow (state_of c.self.inside.def c.self.inside.lists.items c.self.inside.rows c.self.inside.indexes.items) c.args.row = subst (λ (s : State). KeepsRow s c.args.row) (sym c.self.view_is) c.requires.kept in
    let slot : IsSome (value_of (values_at c.self.inside.def.key c.args.row) c.self.inside.rows.pairs) = some_from (value_of (values_at c.self.inside.def.key c.args.row) c.self.inside.rows.pairs) (has_value (values_at c.self.inside.def.key c.args.row) c.self.inside.rows.pairs ∙ kept.slot) in
    let e : c.replace_row.new.self.pairs ≡ with_value (values_at c.self.inside.def.key c.args.row) (Some c.args.row) c.self.inside.rows.pairs =
    c.replace_row.ensures.pairs ∙ ap (λ (k : List ℕ). with_value (values_at k c.args.row) (Some c.args.row) c.self.inside.rows.pairs) c.items.ensures in
    contents-put c.self.inside.def c.self.inside.lists.items c.self.inside.rows c.self.inside.live c.self.inside.indexes.items c.self.invariant.0 c.args.row c.replace_row.new.self c.self.inside.indexes.items fits slot e refl (grow-same (entries_of c.self.inside.indexes.items) (entries_of c.self.inside.indexes.items) refl) kept.entries c.replace_row.ensures.ordered ∙ ap (λ (s : State). with_row s.contents c.args.row) c.self.view_is

pub returns-else-is_none-clause-keeps : goal.returns-else-is_none-clause-keeps
returns-else-is_none-clause-keeps g c =
    let fits : IsRow c.self.inside.def c.args.row = subst (λ (s : State). IsRow s.contents.def c.args.row) (sym c.self.view_is) c.requires.fits in
    let kept : KeepsRow (state_of c.self.inside.def c.self.inside.lists.items c.self.inside.rows c.self.inside.indexes.items) c.args.row = subst (λ (s : State). KeepsRow s c.args.row) (sym c.self.view_is) c.requires.kept in
    let slot : IsSome (value_of (values_at c.self.inside.def.key c.args.row) c.self.inside.rows.pairs) = some_from (value_of (values_at c.self.inside.def.key c.args.row) c.self.inside.rows.pairs) (has_value (values_at c.self.inside.def.key c.args.row) c.self.inside.rows.pairs ∙ kept.slot) in
    let e : c.replace_row.new.self.pairs ≡ with_value (values_at c.self.inside.def.key c.args.row) (Some c.args.row) c.self.inside.rows.pairs =
    c.replace_row.ensures.pairs ∙ ap (λ (k : List ℕ). with_value (values_at k c.args.row) (Some c.args.row) c.self.inside.rows.pairs) c.items.ensures in
    subst (λ s. StillKeeps s (state_of c.self.inside.def c.self.inside.lists.items c.replace_row.new.self c.self.inside.indexes.items)) c.self.view_is (keeps-put c.self.inside.def c.self.inside.lists.items c.self.inside.rows c.self.inside.live c.self.inside.indexes.items c.self.invariant.0 c.args.row c.replace_row.new.self c.self.inside.indexes.items fits slot e refl (grow-same (entries_of c.self.inside.indexes.items) (entries_of c.self.inside.indexes.items) refl) kept.entries c.replace_row.ensures.ordered)
