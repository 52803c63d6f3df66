-- The row on which a cursor stands is one of the table's.
use Rattle.std.proofs.Common.{◌≡◌, ℕ, Bool, true, false, List, [], ◌∷◌, subst, Option, Some, None}
use Rattle.std.specs.Prelude.{All, if◌then◌else◌}
use Rattle.std.specs.List.{list_all}
use Rattle.std.specs.Ordering.{is_eq}
use Rattle.std.proofs.lemmas.List.Elements.{All-cons, All-head, All-nil, All-tail}
use Rattle.psm_num.proofs.Literals.{and_first, and_second}
use Rattle.psm_value.specs.declared.datum.Datum.{Datum}
use Rattle.psm_table.specs.Cursors.{current, row_at, row_of_key, Position}
use Rattle.psm_table.specs.Key.{key_order, values_at}

abbrev Row : Type 0
Row = List Datum

-- a test that all rows pass holds of each
pub each_of : (t : Row → Bool) (rows : List Row) → list_all t rows ≡ true → All (λ row. t row ≡ true) rows
each_of t [] h = All-nil (λ row. t row ≡ true)
each_of t (row ∷ rows) h = All-cons (λ row. t row ≡ true) row rows (and_first (t row) (list_all t rows) h) (each_of t rows (and_second (t row) (list_all t rows) h))

-- ---- the row on which a cursor stands

module _ (P : Row → Type 0) (key : List ℕ) where
  keyed : (k : List Datum) (rows : List Row) (row : Row) → All P rows → row_of_key key k rows ≡ Some row → P row
  keyed k [] row h e = absurd (cc)
  keyed k (r ∷ rows) row h e = by (is_eq (key_order k (values_at key r))) (λ f. keyed k rows row (All-tail P r rows h) f) e where
    by : (b : Bool) → (row_of_key key k rows ≡ Some row → P row) → (if b then Some r else row_of_key key k rows) ≡ Some row → P row
    by true rec e = let same : r ≡ row = cc in subst P same (All-head P r rows h)
    by false rec e = rec e

  at_bound : (bound : Option (List Datum)) (rows : List Row) (row : Row) → All P rows → row_at key rows bound ≡ Some row → P row
  at_bound None rows row h e = absurd (cc)
  at_bound (Some k) rows row h e = keyed k rows row h e

  pub stands_on : (p : Position) (rows : List Row) (row : Row) → All P rows → current key rows p ≡ Some row → P row
  stands_on p rows row h e = by p.is_on_row e where
    by : (b : Bool) → (if b then row_at key rows p.bound else None) ≡ Some row → P row
    by true e = at_bound p.bound rows row h e
    by false e = absurd (cc)
