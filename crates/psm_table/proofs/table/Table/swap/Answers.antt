use Rattle.std.proofs.Common.{◌≡◌, arith, ℕ, List, true, false, Some, None, refl, ap, sym, subst, ◌∙◌}
use Rattle.std.specs.Prelude.{Option, IsSome, is_some}
use Rattle.psm_value.specs.declared.datum.Datum.{Datum}
use Rattle.psm_table.specs.Definition.{IsRow}
use Rattle.psm_table.specs.Held.{entries_of, row_of, state_of, IsEntered}
use Rattle.psm_table.specs.Key.{values_at}
use Rattle.psm_table.specs.Map.{value_of, with_value}
use Rattle.psm_table.specs.PairPosition.{StandsAt}
use Rattle.psm_table.specs.declared.map.Pair.{Pair}
use Rattle.psm_table.specs.declared.map.Position.{Position}
use Rattle.psm_table.specs.State.{State, StillKeeps}
use Rattle.psm_table.specs.Table.{namesake, with_row}
use Rattle.psm_table.proofs.Entered.{no_value}
use Rattle.psm_table.proofs.Holds.{counted-over, contents-put, has_slot, held-over, its_row, keeps-put, keeps-same, kept-over, state-same}
use Rattle.psm_table.proofs.Tables.{held-find}
use Rattle.psm_table.proofs.table.Table.swap.Goals as goal

stands_by : (k key : List ℕ) (r row : List Datum) (runs : List (List (Pair (Option (List Datum))))) (p : Position) → k ≡ key → r ≡ row → StandsAt (values_at k r) runs p → StandsAt (values_at key row) runs p
stands_by k key r row runs p e f h = subst (λ l. StandsAt (values_at l row) runs p) e (subst (λ l. StandsAt (values_at k l) runs p) f h)

pub returns-in_default-clause-answer : goal.returns-in_default-clause-answer
returns-in_default-clause-answer g c =
    let none : is_some (row_of (values_at c.self.inside.def.key c.args.row) c.self.inside.rows.pairs) ≡ false =
    sym (c.in_default.ensures.row ∙ ap (λ (r : List Datum). is_some (row_of (values_at c.items.result.now r) c.self.inside.rows.pairs)) c.values.ensures
    ∙ ap (λ (k : List ℕ). is_some (row_of (values_at k c.args.row) c.self.inside.rows.pairs)) c.items.ensures) in (
      subst (λ (s : State). namesake s.contents c.args.row ≡ None) c.self.view_is
          (sym (held-find c.self.inside.def c.self.inside.lists.items c.self.inside.rows c.self.inside.live c.self.inside.indexes.items c.self.invariant.0 (values_at c.self.inside.def.key c.args.row))
          ∙ no_value (row_of (values_at c.self.inside.def.key c.args.row) c.self.inside.rows.pairs) none),
      refl,
      refl,
    )

pub returns-in_err-enter-clause-keeps : goal.returns-in_err-enter-clause-keeps
returns-in_err-enter-clause-keeps g c =
    keeps-same c.args.self.now (state_of c.self.inside.def c.self.inside.lists.items c.self.inside.rows c.enter.new.indexes.items) (state-same c.self.inside.def c.self.inside.lists.items c.self.inside.rows c.self.inside.rows c.self.inside.indexes.items c.enter.new.indexes.items refl c.in_err-enter.ensures.refused ∙ c.self.view_is)

pub invariant_of-self-in-Some-replace_at : goal.invariant_of-self-in-Some-replace_at
invariant_of-self-in-Some-replace_at g c =
    let fits : IsRow c.self.inside.def c.args.row = subst (λ (s : State). IsRow s.contents.def c.args.row) (sym c.self.view_is) c.requires in
    let stands = stands_by c.items.result.now c.self.inside.def.key c.values.result.now c.args.row c.self.inside.rows.runs c.in-Some.position c.items.ensures c.values.ensures c.in-Some.ensures.at in
    let some : row_of (values_at c.self.inside.def.key c.args.row) c.self.inside.rows.pairs ≡ Some c.in-Some-replace_at.was = sym (c.in-Some-replace_at.ensures.row (values_at c.self.inside.def.key c.args.row) stands) in
    let slot : IsSome (value_of (values_at c.self.inside.def.key c.args.row) c.self.inside.rows.pairs) = has_slot (value_of (values_at c.self.inside.def.key c.args.row) c.self.inside.rows.pairs) c.in-Some-replace_at.was some in
    let e : c.replace_at.new.self.pairs ≡ with_value (values_at c.self.inside.def.key c.args.row) (Some c.args.row) c.self.inside.rows.pairs = c.replace_at.ensures.pairs (values_at c.self.inside.def.key c.args.row) stands in
    let entered : IsEntered c.self.inside.def c.self.inside.lists.items (entries_of c.enter.new.indexes.items) c.args.row = subst (λ (r : List Datum). IsEntered c.self.inside.def c.self.inside.lists.items (entries_of c.enter.new.indexes.items) r) c.values-2.ensures (subst (λ (ls : List (List ℕ)). IsEntered c.self.inside.def ls (entries_of c.enter.new.indexes.items) c.values-2.result.now) c.as_slice.ensures.value c.in_ok-enter.ensures.entered) in (
      held-over c.self.inside.def c.self.inside.lists.items c.self.inside.rows c.self.inside.live c.self.inside.indexes.items c.self.invariant.0 c.args.row c.replace_at.new.self c.enter.new.indexes.items fits slot e c.enter.ensures.lists c.enter.ensures.grow entered c.replace_at.ensures.ordered c.in-Some-replace_at.was some,
      counted-over c.self.inside.def c.self.inside.lists.items c.self.inside.rows c.self.inside.live c.self.inside.indexes.items c.self.invariant.0 c.args.row c.replace_at.new.self c.enter.new.indexes.items fits slot e c.enter.ensures.lists c.enter.ensures.grow entered c.replace_at.ensures.ordered c.in-Some-replace_at.was some c.enter.ensures.one c.self.inside.left c.saturating_add-self-inside.result (λ l. omega (arith, l, c.saturating_add-self-inside.ensures)) c.self.invariant.1,
    )

pub invariant_of-self-in-None : goal.invariant_of-self-in-None
invariant_of-self-in-None g c =
    let stands = stands_by c.items.result.now c.self.inside.def.key c.values.result.now c.args.row c.self.inside.rows.runs c.in-Some.position c.items.ensures c.values.ensures c.in-Some.ensures.at in
    let there = c.in-Some.ensures.row ∙ ap (λ (r : List Datum). is_some (row_of (values_at c.items.result.now r) c.self.inside.rows.pairs)) c.values.ensures
    ∙ ap (λ (k : List ℕ). is_some (row_of (values_at k c.args.row) c.self.inside.rows.pairs)) c.items.ensures in
    let none = c.in-None.ensures.row (values_at c.self.inside.def.key c.args.row) stands in
    let bad : true ≡ false = there ∙ sym (ap is_some none) in
    absurd (let never : ⊥ = cc in never)

pub returns-in-Some-replace_at-clause-answer : goal.returns-in-Some-replace_at-clause-answer
returns-in-Some-replace_at-clause-answer g c =
    let fits : IsRow c.self.inside.def c.args.row = subst (λ (s : State). IsRow s.contents.def c.args.row) (sym c.self.view_is) c.requires in
    let stands = stands_by c.items.result.now c.self.inside.def.key c.values.result.now c.args.row c.self.inside.rows.runs c.in-Some.position c.items.ensures c.values.ensures c.in-Some.ensures.at in
    let some : row_of (values_at c.self.inside.def.key c.args.row) c.self.inside.rows.pairs ≡ Some c.in-Some-replace_at.was = sym (c.in-Some-replace_at.ensures.row (values_at c.self.inside.def.key c.args.row) stands) in
    let slot : IsSome (value_of (values_at c.self.inside.def.key c.args.row) c.self.inside.rows.pairs) = has_slot (value_of (values_at c.self.inside.def.key c.args.row) c.self.inside.rows.pairs) c.in-Some-replace_at.was some in
    let e : c.replace_at.new.self.pairs ≡ with_value (values_at c.self.inside.def.key c.args.row) (Some c.args.row) c.self.inside.rows.pairs = c.replace_at.ensures.pairs (values_at c.self.inside.def.key c.args.row) stands in
    let entered : IsEntered c.self.inside.def c.self.inside.lists.items (entries_of c.enter.new.indexes.items) c.args.row = subst (λ (r : List Datum). IsEntered c.self.inside.def c.self.inside.lists.items (entries_of c.enter.new.indexes.items) r) c.values-2.ensures (subst (λ (ls : List (List ℕ)). IsEntered c.self.inside.def ls (entries_of c.enter.new.indexes.items) c.values-2.result.now) c.as_slice.ensures.value c.in_ok-enter.ensures.entered) in (
      subst (λ (s : State). namesake s.contents c.args.row ≡ Some c.in-Some-replace_at.was) c.self.view_is (sym (held-find c.self.inside.def c.self.inside.lists.items c.self.inside.rows c.self.inside.live c.self.inside.indexes.items c.self.invariant.0 (values_at c.self.inside.def.key c.args.row)) ∙ some),
      contents-put c.self.inside.def c.self.inside.lists.items c.self.inside.rows c.self.inside.live c.self.inside.indexes.items c.self.invariant.0 c.args.row c.replace_at.new.self c.enter.new.indexes.items fits slot e c.enter.ensures.lists c.enter.ensures.grow entered c.replace_at.ensures.ordered ∙ ap (λ (s : State). with_row s.contents c.args.row) c.self.view_is,
      c.tick.ensures,
    )

pub returns-in-Some-replace_at-clause-fits : goal.returns-in-Some-replace_at-clause-fits
returns-in-Some-replace_at-clause-fits g c =
    let stands = stands_by c.items.result.now c.self.inside.def.key c.values.result.now c.args.row c.self.inside.rows.runs c.in-Some.position c.items.ensures c.values.ensures c.in-Some.ensures.at in
    let some : row_of (values_at c.self.inside.def.key c.args.row) c.self.inside.rows.pairs ≡ Some c.in-Some-replace_at.was = sym (c.in-Some-replace_at.ensures.row (values_at c.self.inside.def.key c.args.row) stands) in
    subst (λ d. IsRow d c.in-Some-replace_at.was) (ap (λ (s : State). s.contents.def) c.self.view_is) (its_row c.self.inside.def c.self.inside.lists.items c.self.inside.rows c.self.inside.live c.self.inside.indexes.items c.self.invariant.0 (values_at c.self.inside.def.key c.args.row) c.in-Some-replace_at.was some)

pub returns-in-Some-replace_at-clause-kept : goal.returns-in-Some-replace_at-clause-kept
returns-in-Some-replace_at-clause-kept g c =
    let fits : IsRow c.self.inside.def c.args.row = subst (λ (s : State). IsRow s.contents.def c.args.row) (sym c.self.view_is) c.requires in
    let stands = stands_by c.items.result.now c.self.inside.def.key c.values.result.now c.args.row c.self.inside.rows.runs c.in-Some.position c.items.ensures c.values.ensures c.in-Some.ensures.at in
    let some : row_of (values_at c.self.inside.def.key c.args.row) c.self.inside.rows.pairs ≡ Some c.in-Some-replace_at.was = sym (c.in-Some-replace_at.ensures.row (values_at c.self.inside.def.key c.args.row) stands) in
    let slot : IsSome (value_of (values_at c.self.inside.def.key c.args.row) c.self.inside.rows.pairs) = has_slot (value_of (values_at c.self.inside.def.key c.args.row) c.self.inside.rows.pairs) c.in-Some-replace_at.was some in
    let e : c.replace_at.new.self.pairs ≡ with_value (values_at c.self.inside.def.key c.args.row) (Some c.args.row) c.self.inside.rows.pairs = c.replace_at.ensures.pairs (values_at c.self.inside.def.key c.args.row) stands in
    let entered : IsEntered c.self.inside.def c.self.inside.lists.items (entries_of c.enter.new.indexes.items) c.args.row = subst (λ (r : List Datum). IsEntered c.self.inside.def c.self.inside.lists.items (entries_of c.enter.new.indexes.items) r) c.values-2.ensures (subst (λ (ls : List (List ℕ)). IsEntered c.self.inside.def ls (entries_of c.enter.new.indexes.items) c.values-2.result.now) c.as_slice.ensures.value c.in_ok-enter.ensures.entered) in
    kept-over c.self.inside.def c.self.inside.lists.items c.self.inside.rows c.self.inside.live c.self.inside.indexes.items c.self.invariant.0 c.args.row c.replace_at.new.self c.enter.new.indexes.items fits slot e c.enter.ensures.lists c.enter.ensures.grow entered c.replace_at.ensures.ordered c.in-Some-replace_at.was some

pub returns-in-Some-replace_at-clause-keeps : goal.returns-in-Some-replace_at-clause-keeps
returns-in-Some-replace_at-clause-keeps g c =
    let fits : IsRow c.self.inside.def c.args.row = subst (λ (s : State). IsRow s.contents.def c.args.row) (sym c.self.view_is) c.requires in
    let stands = stands_by c.items.result.now c.self.inside.def.key c.values.result.now c.args.row c.self.inside.rows.runs c.in-Some.position c.items.ensures c.values.ensures c.in-Some.ensures.at in
    let some : row_of (values_at c.self.inside.def.key c.args.row) c.self.inside.rows.pairs ≡ Some c.in-Some-replace_at.was = sym (c.in-Some-replace_at.ensures.row (values_at c.self.inside.def.key c.args.row) stands) in
    let slot : IsSome (value_of (values_at c.self.inside.def.key c.args.row) c.self.inside.rows.pairs) = has_slot (value_of (values_at c.self.inside.def.key c.args.row) c.self.inside.rows.pairs) c.in-Some-replace_at.was some in
    let e : c.replace_at.new.self.pairs ≡ with_value (values_at c.self.inside.def.key c.args.row) (Some c.args.row) c.self.inside.rows.pairs = c.replace_at.ensures.pairs (values_at c.self.inside.def.key c.args.row) stands in
    let entered : IsEntered c.self.inside.def c.self.inside.lists.items (entries_of c.enter.new.indexes.items) c.args.row = subst (λ (r : List Datum). IsEntered c.self.inside.def c.self.inside.lists.items (entries_of c.enter.new.indexes.items) r) c.values-2.ensures (subst (λ (ls : List (List ℕ)). IsEntered c.self.inside.def ls (entries_of c.enter.new.indexes.items) c.values-2.result.now) c.as_slice.ensures.value c.in_ok-enter.ensures.entered) in
    subst (λ s. StillKeeps s (state_of c.self.inside.def c.self.inside.lists.items c.replace_at.new.self c.enter.new.indexes.items)) c.self.view_is (keeps-put c.self.inside.def c.self.inside.lists.items c.self.inside.rows c.self.inside.live c.self.inside.indexes.items c.self.invariant.0 c.args.row c.replace_at.new.self c.enter.new.indexes.items fits slot e c.enter.ensures.lists c.enter.ensures.grow entered c.replace_at.ensures.ordered)

pub returns-in-None-clause-answer : goal.returns-in-None-clause-answer
returns-in-None-clause-answer g c =
    let stands = stands_by c.items.result.now c.self.inside.def.key c.values.result.now c.args.row c.self.inside.rows.runs c.in-Some.position c.items.ensures c.values.ensures c.in-Some.ensures.at in
    let there = c.in-Some.ensures.row ∙ ap (λ (r : List Datum). is_some (row_of (values_at c.items.result.now r) c.self.inside.rows.pairs)) c.values.ensures
    ∙ ap (λ (k : List ℕ). is_some (row_of (values_at k c.args.row) c.self.inside.rows.pairs)) c.items.ensures in
    let none = c.in-None.ensures.row (values_at c.self.inside.def.key c.args.row) stands in
    let bad : true ≡ false = there ∙ sym (ap is_some none) in
    absurd (let never : ⊥ = cc in never)

pub returns-in-None-clause-keeps : goal.returns-in-None-clause-keeps
returns-in-None-clause-keeps g c =
    let stands = stands_by c.items.result.now c.self.inside.def.key c.values.result.now c.args.row c.self.inside.rows.runs c.in-Some.position c.items.ensures c.values.ensures c.in-Some.ensures.at in
    let there = c.in-Some.ensures.row ∙ ap (λ (r : List Datum). is_some (row_of (values_at c.items.result.now r) c.self.inside.rows.pairs)) c.values.ensures
    ∙ ap (λ (k : List ℕ). is_some (row_of (values_at k c.args.row) c.self.inside.rows.pairs)) c.items.ensures in
    let none = c.in-None.ensures.row (values_at c.self.inside.def.key c.args.row) stands in
    let bad : true ≡ false = there ∙ sym (ap is_some none) in
    absurd (let never : ⊥ = cc in never)
