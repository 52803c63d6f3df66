-- Rows that are left of a table, and rows that are put in beside them.
use Rattle.std.proofs.Common.{◌≡◌, ◌≤◌, ℕ, List, [], ◌∷◌, ◌++◌, length, Bool, true, false, refl, ap, sym, ◌∙◌, arith, append_assoc, ◌&&◌}
use Rattle.std.specs.Prelude.{filter, if◌then◌else◌}
use Rattle.std.specs.List.{list_all}
use Rattle.std.specs.Ordering.{is_gt, is_lt}
use Rattle.std.specs.declared.cmp.Ordering.TheVariants.{Less}
use Rattle.std.proofs.lemmas.List.{append-nil}
use Rattle.std.proofs.lemmas.List.Kept.{AllPairs-filter}
use Rattle.psm_value.specs.declared.datum.Datum.{Datum}
use Rattle.psm_table.specs.Changing.{in_order}
use Rattle.psm_table.specs.Key.{key_order, row_order, values_at}
use Rattle.psm_table.specs.Rows.{rows_above, rows_below, without, IsAscending}
use Rattle.psm_table.specs.Table.{with_row, Contents}
use Rattle.psm_table.proofs.AsStored.{append_all}
use Rattle.psm_table.proofs.Filters.{AllPairs-append}
use Rattle.psm_table.proofs.Rules.{both, first_true, second_true}
use Rattle.psm_table.proofs.Tables.{ascending-put}
use Rattle.psm_table.proofs.UniqueLaws.{across-rows}
use Rattle.psm_row_changes.specs.Rows.{fit_in, fits_in, with_rows, without_all}
use Rattle.psm_row_changes.proofs.Putting.{put_order, without-bound}

abbrev Row : Type 0
Row = List Datum

-- rows that keep the rules stand in order among the others
pub rows_in_order : (rows xs : List Row) (c : Contents) → c.rows ≡ in_order c.def.key xs → IsAscending c.def.key c.rows → fit_in rows c ≡ true → (with_rows rows c).rows ≡ in_order c.def.key (xs ++ rows)
rows_in_order [] xs c e up f = e ∙ ap (in_order c.def.key) (sym (append-nil xs))
rows_in_order (row ∷ rows) xs c e up f =
    rows_in_order rows (xs ++ row ∷ []) (with_row c row) (put_order c xs row e up (first_true (fits_in row c) (fit_in rows (with_row c row)) f)) (ascending-put c.def.key row c.rows up)
    (second_true (fits_in row c) (fit_in rows (with_row c row)) f)
    ∙ ap (in_order c.def.key) (append_assoc xs (row ∷ []) rows)

abbrev Rises : List ℕ → Row → Row → Type 0
Rises columns a b = key_order (values_at columns a) (values_at columns b) ≡ Less

-- of two tests the second counts where the first holds
pub and_where : (a b c : Bool) → (a ≡ true → b ≡ c) → (a && b) ≡ (a && c)
and_where true b c h = h refl
and_where false b c h = refl

-- rows that are taken out leave the others in order
ascending-without : (columns : List ℕ) (key : List Datum) (rows : List Row) → IsAscending columns rows → IsAscending columns (without columns key rows)
ascending-without columns key rows up =
    AllPairs-append (Rises columns) (rows_below columns key rows) (rows_above columns key rows)
    (AllPairs-filter (Rises columns) (λ r. is_lt (row_order columns key r)) rows up)
    (AllPairs-filter (Rises columns) (λ r. is_gt (row_order columns key r)) rows up)
    (across-rows columns key (Rises columns) rows up up)

pub ascending-all : (columns : List ℕ) (keys : List (List Datum)) (rows : List Row) → IsAscending columns rows → IsAscending columns (without_all columns keys rows)
ascending-all columns [] rows up = up
ascending-all columns (key ∷ keys) rows up = ascending-all columns keys (without columns key rows) (ascending-without columns key rows up)

-- what holds of all rows holds of those that are left
pub all-filter : {X : Type 0} (p q : X → Bool) (xs : List X) → list_all p xs ≡ true → list_all p (filter q xs) ≡ true
all-filter p q [] h = refl
all-filter p q (x ∷ xs) h = by (q x) (all-filter p q xs (second_true (p x) (list_all p xs) h)) where
  by : (b : Bool) → list_all p (filter q xs) ≡ true → list_all p (if b then x ∷ filter q xs else filter q xs) ≡ true
  by true k = both (p x) (list_all p (filter q xs)) (first_true (p x) (list_all p xs) h) k
  by false k = k

pub all-left : (p : Row → Bool) (columns : List ℕ) (keys : List (List Datum)) (rows : List Row) → list_all p rows ≡ true → list_all p (without_all columns keys rows) ≡ true
all-left p columns [] rows h = h
all-left p columns (key ∷ keys) rows h =
    all-left p columns keys (without columns key rows)
    (append_all p (rows_below columns key rows) (rows_above columns key rows) (all-filter p (λ r. is_lt (row_order columns key r)) rows h) (all-filter p (λ r. is_gt (row_order columns key r)) rows h))

pub without_all-bound : (columns : List ℕ) (keys : List (List Datum)) (rows : List Row) → length (without_all columns keys rows) ≤ length rows
without_all-bound columns [] rows = omega arith
without_all-bound columns (key ∷ keys) rows = omega (arith, without_all-bound columns keys (without columns key rows), without-bound columns key rows)
