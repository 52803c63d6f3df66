-- Room for one more row.
use Rattle.std.proofs.Common.{ℕ, suc, ◌+◌, ◌<◌, ◌≤◌, List, [], ◌∷◌, length, arith}
use Rattle.std.specs.Prelude.{cond, filter}
use Rattle.std.specs.Ordering.{is_lt, is_gt}
use Rattle.std.specs.declared.cmp.Ordering.{Ordering}
use Rattle.std.specs.declared.cmp.Ordering.TheVariants.{Less, Equal, Greater}
use Rattle.std.proofs.lemmas.List.{length-append}
use Rattle.psm_value.specs.declared.datum.Datum.{Datum}
use Rattle.psm_table.specs.Key.{values_at, row_order}
use Rattle.psm_table.specs.Rows.{rows_above, rows_below}
use Rattle.psm_table.specs.Table.{Contents, most_rows, with_row}

-- one element is in front of the smaller, or of the greater, or of none
one_more : {X : Type 0} (c : Ordering) (x : X) (low high : List X) (n : ℕ) → length low + length high ≤ n
    → length (cond (is_lt c) (x ∷ low) low) + length (cond (is_gt c) (x ∷ high) high) ≤ suc n
one_more Less x low high n h = omega (arith, h)
one_more Equal x low high n h = omega (arith, h)
one_more Greater x low high n h = omega (arith, h)

-- the smaller and the greater aren't more than all
length-apart : {X : Type 0} (order : X → Ordering) (xs : List X) → length (filter (λ x. is_lt (order x)) xs) + length (filter (λ x. is_gt (order x)) xs) ≤ length xs
length-apart order [] = omega arith
length-apart order (x ∷ xs) = one_more (order x) x (filter (λ y. is_lt (order y)) xs) (filter (λ y. is_gt (order y)) xs) (length xs) (length-apart order xs)

pub room_with : (t : Contents) (row : List Datum) → length t.rows < most_rows → length (with_row t row).rows ≤ most_rows
room_with t row h =
    let key : List Datum = values_at t.def.key row in
    omega (arith, h, length-apart (row_order t.def.key key) t.rows, length-append (rows_below t.def.key key t.rows) (row ∷ rows_above t.def.key key t.rows))
