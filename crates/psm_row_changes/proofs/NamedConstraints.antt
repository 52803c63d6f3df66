-- The constraints that name a table are all that a statement on it has to test: the others hold as before.
use Rattle.std.proofs.Common.{◌≡◌, ℕ, List, [], ◌∷◌, Bool, true, false, ◌&&◌, ◌||◌, refl, ap, sym, subst, ◌∙◌, inl, inr, Option, Some, None, Result}
use Rattle.std.specs.Prelude.{IfOk, IfSome, filter, nat_eq, slice_set, if◌then◌else◌}
use Rattle.std.specs.List.{list_all}
use Rattle.std.specs.declared.alloc.AllocError.{AllocError}
use Rattle.std.proofs.lemmas.Bool.Decides.{eqb_tells}
use Rattle.psm_value.specs.declared.datum.Datum.{Datum}
use Rattle.psm_table.specs.declared.definition.ForeignKey.{ForeignKey}
use Rattle.psm_table.specs.Changing.{is_filled}
use Rattle.psm_table.specs.Constraints.{names_table}
use Rattle.psm_table.specs.Keyed.{are_keyed, are_keyed_with, is_keyed, rows_in}
use Rattle.psm_table.specs.Table.{Contents}
use Rattle.psm_table.proofs.Keying.{keys_elsewhere}
use Rattle.psm_table.proofs.Rules.{first_true, second_true}
use Rattle.psm_row_changes.specs.KeyTests.{changes_all, replaces}
use Rattle.psm_row_changes.specs.Rows.{fit_in, with_rows, without_keys}
use Rattle.psm_row_changes.proofs.Leftover.{all-filter}

abbrev Row : Type 0
Row = List Datum

module _ (tables : List (List Row)) (t : ℕ) (rows : List Row) where
  abbrev after : List (List Row)
  after = slice_set tables t rows

  apart : (key : ForeignKey) → names_table t key ≡ false → is_keyed after key ≡ is_keyed tables key
  apart key e =
      elim (eqb_tells key.from t) as (λ _. is_keyed after key ≡ is_keyed tables key) [
        | inl p ↦ absurd (let bad : true ≡ false = sym (ap (λ b. b || nat_eq key.to t) p.0) ∙ e in cc)
        | inr p ↦ elim (eqb_tells key.to t) as (λ _. is_keyed after key ≡ is_keyed tables key) [
          | inl q ↦ absurd (let bad : true ≡ false = sym (ap (λ b. b || nat_eq key.to t) p.0 ∙ q.0) ∙ e in cc)
          | inr q ↦ keys_elsewhere tables t rows key p.1 q.1
        ]
      ]

  named_alone : (constraints : List ForeignKey) → are_keyed constraints tables ≡ true → are_keyed (filter (names_table t) constraints) after ≡ are_keyed constraints after
  named_alone [] h = refl
  named_alone (key ∷ rest) h = by (names_table t key) refl (named_alone rest (second_true (is_keyed tables key) (are_keyed rest tables) h)) where
    by : (b : Bool) → names_table t key ≡ b → are_keyed (filter (names_table t) rest) after ≡ are_keyed rest after
        → are_keyed (if b then key ∷ filter (names_table t) rest else filter (names_table t) rest) after ≡ (is_keyed after key && are_keyed rest after)
    by true e same = ap (λ b. is_keyed after key && b) same
    by false e same = same ∙ ap (λ b. b && are_keyed rest after) (sym (apart key e ∙ first_true (is_keyed tables key) (are_keyed rest tables) h))

-- ---- statements

module _ (constraints : List ForeignKey) (tables : List Contents) (t : ℕ) (held : are_keyed constraints (rows_in tables) ≡ true) where
  abbrev named : List ForeignKey
  named = filter (names_table t) constraints

  pub named_held : are_keyed named (rows_in tables) ≡ true
  named_held = all-filter (is_keyed (rows_in tables)) (names_table t) constraints held

  pub erases_named : (rows : List Row) → are_keyed_with named (rows_in tables) t rows ≡ are_keyed_with constraints (rows_in tables) t rows
  erases_named rows = named_alone (rows_in tables) t rows constraints held

  pub replaces_named : (keys rows : List Row) (c : Contents) → replaces named tables t keys rows c ≡ replaces constraints tables t keys rows c
  replaces_named keys rows c = ap (λ b. fit_in rows (without_keys keys c) && b) (erases_named (with_rows rows (without_keys keys c)).rows)

  pub changes_named : (rows : List Row) (c : Contents) → changes_all named tables t rows c ≡ changes_all constraints tables t rows c
  changes_named rows c = ap (λ b. list_all (is_filled c.def) rows && b) (erases_named (with_rows rows c).rows)

-- one test of a table, if it is there, for another
pub for_tests : (p q : Contents → Bool) → ((c : Contents) → p c ≡ q c) → (r : Result Bool AllocError) (o : Option Contents) → IfSome o (λ c. IfOk r (λ b. b ≡ p c)) → IfSome o (λ c. IfOk r (λ b. b ≡ q c))
for_tests p q e r None h = tt
for_tests p q e r (Some c) h = subst (λ z. IfOk r (λ b. b ≡ z)) (e c) h
