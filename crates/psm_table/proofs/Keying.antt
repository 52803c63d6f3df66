-- What a statement has to test of FOREIGN KEY constraints that held before it.
use Rattle.std.proofs.Common.{◌≡◌, ◌<◌, ℕ, List, [], ◌∷◌, ◌++◌, Bool, true, false, ◌&&◌, ◌||◌, eqb, get_or, set, length, refl, ap, sym, ◌∙◌, inl, inr}
use Rattle.std.specs.Prelude.{◌≢◌, if◌then◌else◌, slice_set}
use Rattle.std.specs.List.{list_all, list_any}
use Rattle.std.proofs.lemmas.Bool.Decides.{eqb_tells}
use Rattle.std.proofs.lemmas.List.{get_or-set_other, get_or-set_same}
use Rattle.std.proofs.lemmas.List.Folds.{list_all-append, list_any-append}
use Rattle.psm_value.specs.declared.datum.Datum.{Datum}
use Rattle.psm_table.specs.declared.definition.ForeignKey.{ForeignKey}
use Rattle.psm_table.specs.Changing.{in_order, is_before, inserted_in}
use Rattle.psm_table.specs.Key.{values_at}
use Rattle.psm_table.specs.Keyed.{has_values, is_keyed, is_referred, new_are_referred, rows_at}
use Rattle.psm_table.specs.Unique.{equal_values, has_null}
use Rattle.psm_table.proofs.Rules.{all-in_order, both, first_true, second_true}

abbrev Row : Type 0
Row = List Datum

-- ---- Booleans

or_crossed : (a b c : Bool) → (a || (b || c)) ≡ (b || (a || c))
or_crossed true true c = refl
or_crossed true false c = refl
or_crossed false b c = refl

or_longer : (a b c : Bool) → (a || b) ≡ true → (a || (b || c)) ≡ true
or_longer true b c e = refl
or_longer false true c e = refl
or_longer false false c e = cc

and_first : (a b : Bool) → a ≡ true → (a && b) ≡ b
and_first true b e = refl
and_first false b e = cc

-- ---- rows in the order of keys

module _ (columns : List ℕ) (p : Row → Bool) where
  any_step : (row y : Row) (ys : List Row) (b : Bool) → is_before columns row y ≡ b
      → list_any p (inserted_in columns row ys) ≡ (p row || list_any p ys) → list_any p (inserted_in columns row (y ∷ ys)) ≡ (p row || list_any p (y ∷ ys))
  any_step row y ys true e h = rw e refl
  any_step row y ys false e h = rw e (ap (λ x. p y || x) h ∙ or_crossed (p y) (p row) (list_any p ys))

  any-put_in : (row : Row) (rows : List Row) → list_any p (inserted_in columns row rows) ≡ (p row || list_any p rows)
  any-put_in row [] = refl
  any-put_in row (y ∷ ys) = any_step row y ys (is_before columns row y) refl (any-put_in row ys)

  pub any-in_order : (rows : List Row) → list_any p (in_order columns rows) ≡ list_any p rows
  any-in_order [] = refl
  any-in_order (row ∷ rows) = any-put_in row (in_order columns rows) ∙ ap (λ x. p row || x) (any-in_order rows)

-- what one of the rows passes, one of them and of others passes
any-more : (p : Row → Bool) (columns : List ℕ) (rows new : List Row) → list_any p rows ≡ true → list_any p (in_order columns (rows ++ new)) ≡ true
any-more p columns rows new e = any-in_order columns p (rows ++ new) ∙ list_any-append p rows new ∙ ap (λ x. x || list_any p new) e

-- ---- one constraint

module _ (columns target : List ℕ) where
  -- a row that is referred to stays so where rows are added
  referred_more : (order : List ℕ) (others new : List Row) (row : Row) → is_referred columns target others row ≡ true → is_referred columns target (in_order order (others ++ new)) row ≡ true
  referred_more order others new row = by (has_null (values_at columns row)) where
    by : (b : Bool) → (b || has_values target (values_at columns row) others) ≡ true → (b || has_values target (values_at columns row) (in_order order (others ++ new))) ≡ true
    by true e = refl
    by false e = any-more (λ (other : Row). equal_values (values_at columns row) (values_at target other)) order others new e

  all_referred_more : (order : List ℕ) (others new rows : List Row) → list_all (is_referred columns target others) rows ≡ true → list_all (is_referred columns target (in_order order (others ++ new))) rows ≡ true
  all_referred_more order others new [] e = refl
  all_referred_more order others new (row ∷ rows) e =
      both (is_referred columns target (in_order order (others ++ new)) row) (list_all (is_referred columns target (in_order order (others ++ new))) rows)
      (referred_more order others new row (first_true (is_referred columns target others row) (list_all (is_referred columns target others) rows) e))
      (all_referred_more order others new rows (second_true (is_referred columns target others row) (list_all (is_referred columns target others) rows) e))

-- of rows that pass a test and new ones the new ones alone are to be tested
all-new : (p : Row → Bool) (columns : List ℕ) (left new : List Row) → list_all p left ≡ true → list_all p (in_order columns (left ++ new)) ≡ list_all p new
all-new p columns left new e =
    all-in_order columns p (left ++ new) ∙ list_all-append p left new ∙ and_first (list_all p left) (list_all p new) e

-- ---- tables

eqb_other : (a b : ℕ) → a ≢ b → eqb a b ≡ false
eqb_other a b n = elim (eqb_tells a b) as (λ _. eqb a b ≡ false) [ inl p ↦ absurd (n p.1) | inr p ↦ p.0 ]

module _ (tables : List (List Row)) (t : ℕ) where
  there : (rows : List Row) (n : ℕ) → t < length tables → n ≡ t → rows_at (slice_set tables t rows) n ≡ rows
  there rows n h e = ap (λ n. get_or (set tables t rows) n []) e ∙ get_or-set_same tables t rows [] h

  elsewhere : (rows : List Row) (n : ℕ) → n ≢ t → rows_at (slice_set tables t rows) n ≡ rows_at tables n
  elsewhere rows n h = get_or-set_other tables t n rows [] h

  pub keys_elsewhere : (rows : List Row) (key : ForeignKey) → key.from ≢ t → key.to ≢ t → is_keyed (slice_set tables t rows) key ≡ is_keyed tables key
  keys_elsewhere rows key f g =
      ap (λ o. list_all (is_referred key.columns key.target o) (rows_at (slice_set tables t rows) key.from)) (elsewhere rows key.to g)
      ∙ ap (list_all (is_referred key.columns key.target (rows_at tables key.to))) (elsewhere rows key.from f)

  pub referring : (columns : List ℕ) (left new : List Row) (key : ForeignKey) → t < length tables → key.from ≡ t → key.to ≢ t → is_keyed tables key ≡ true
      → ((p : Row → Bool) → list_all p (rows_at tables t) ≡ true → list_all p left ≡ true)
      → is_keyed (slice_set tables t (in_order columns (left ++ new))) key ≡ list_all (is_referred key.columns key.target (rows_at tables key.to)) new
  referring columns left new key h f g e stay =
      let p : Row → Bool = is_referred key.columns key.target (rows_at tables key.to) in
      let after : List Row = in_order columns (left ++ new) in
      let held : list_all p (rows_at tables t) ≡ true = ap (λ n. list_all p (rows_at tables n)) (sym f) ∙ e in
      ap (λ o. list_all (is_referred key.columns key.target o) (rows_at (slice_set tables t after) key.from)) (elsewhere after key.to g)
      ∙ ap (list_all p) (there after key.from h f)
      ∙ all-new p columns left new (stay p held)

  -- the others of a constraint, before and after rows are added to the table
  all_stay : (columns : List ℕ) (new : List Row) (key : ForeignKey) (rows : List Row) → t < length tables → list_all (is_referred key.columns key.target (rows_at tables key.to)) rows ≡ true
      → list_all (is_referred key.columns key.target (rows_at (slice_set tables t (in_order columns (rows_at tables t ++ new))) key.to)) rows ≡ true
  all_stay columns new key rows h e =
      let after : List Row = in_order columns (rows_at tables t ++ new) in
      elim (eqb_tells key.to t) as (λ _. list_all (is_referred key.columns key.target (rows_at (slice_set tables t after) key.to)) rows ≡ true) [
        | inl p ↦ ap (λ o. list_all (is_referred key.columns key.target o) rows) (there after key.to h p.1)
            ∙ all_referred_more key.columns key.target columns (rows_at tables t) new rows (ap (λ n. list_all (is_referred key.columns key.target (rows_at tables n)) rows) (sym p.1) ∙ e)
        | inr p ↦ ap (λ o. list_all (is_referred key.columns key.target o) rows) (elsewhere after key.to p.1) ∙ e
      ]

  pub added_are_referred : (columns : List ℕ) (new : List Row) (key : ForeignKey) → t < length tables → is_keyed tables key ≡ true
      → (let after = slice_set tables t (in_order columns (rows_at tables t ++ new)) in is_keyed after key ≡ new_are_referred key t after new)
  added_are_referred columns new key h e =
      let rows : List Row = in_order columns (rows_at tables t ++ new) in
      let after : List (List Row) = slice_set tables t rows in
      let p : Row → Bool = is_referred key.columns key.target (rows_at after key.to) in
      elim (eqb_tells key.from t) as (λ _. is_keyed after key ≡ new_are_referred key t after new) [
        | inl q ↦ ap (list_all p) (there rows key.from h q.1)
            ∙ all-new p columns (rows_at tables t) new (all_stay columns new key (rows_at tables t) h (ap (λ n. list_all (is_referred key.columns key.target (rows_at tables key.to)) (rows_at tables n)) (sym q.1) ∙ e))
            ∙ sym (ap (λ b. if b then list_all p new else true) q.0)
        | inr q ↦ ap (list_all p) (elsewhere rows key.from q.1) ∙ all_stay columns new key (rows_at tables key.from) h e ∙ sym (ap (λ b. if b then list_all p new else true) q.0)
      ]
