-- Lists of rows in the order of their keys, and what is added to them and taken from them.
use Rattle.std.specs.Prelude.{◌≡◌, ℕ, ◌-◌, List, ◌∷◌, ◌++◌, length, AllPairs, filter, find, slice_get, Option, Some, None}
use Rattle.std.specs.Ordering.{is_lt, is_gt, is_eq}
use Rattle.std.specs.declared.cmp.Ordering.TheVariants.{Less}
use Rattle.psm_value.specs.declared.datum.Datum.{Datum}
use Rattle.psm_table.specs.Key.{values_at, key_order, row_order}

-- each row's key is less than that of every later row
abbrev pub IsAscending : List ℕ → List (List Datum) → Type 0
IsAscending columns rows = AllPairs (λ a b. key_order (values_at columns a) (values_at columns b) ≡ Less) rows

-- the rows with smaller keys
abbrev pub rows_below : List ℕ → List Datum → List (List Datum) → List (List Datum)
rows_below columns key rows = filter (λ row. is_lt (row_order columns key row)) rows

-- the rows with greater keys
abbrev pub rows_above : List ℕ → List Datum → List (List Datum) → List (List Datum)
rows_above columns key rows = filter (λ row. is_gt (row_order columns key row)) rows

-- the row that has the key
abbrev pub row_with : List ℕ → List Datum → List (List Datum) → Option (List Datum)
row_with columns key rows = find (λ row. is_eq (row_order columns key row)) rows

-- the rows with the row in the place of its key: between the smaller and the greater
abbrev pub put : List ℕ → List Datum → List (List Datum) → List (List Datum)
put columns row rows =
    let key = values_at columns row in rows_below columns key rows ++ row ∷ rows_above columns key rows

-- the rows that don't have the key
abbrev pub without : List ℕ → List Datum → List (List Datum) → List (List Datum)
without columns key rows = rows_below columns key rows ++ rows_above columns key rows

-- the first row with a greater key; without a key the first row
abbrev pub row_after : List ℕ → Option (List Datum) → List (List Datum) → Option (List Datum)
row_after columns None rows = slice_get rows 0
row_after columns (Some key) rows = slice_get (rows_above columns key rows) 0

-- the last element of a list
abbrev pub last_of : {X : Type 0} → List X → Option X
last_of xs = slice_get xs (length xs - 1)
