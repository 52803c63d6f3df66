-- The values of a row in a list of columns, and the order of keys (ISO/IEC 9075:1992, 8.2).
use Rattle.std.specs.Prelude.{ℕ, ◌<◌, List, length, map, All, slice_index_or}
use Rattle.std.specs.declared.cmp.Ordering.{Ordering}
use Rattle.std.specs.Cmp.Lexicographic.{slice_cmp}
use Rattle.psm_value.specs.declared.datum.Datum.{Datum}
use Rattle.psm_value.specs.declared.datum.Datum.TheVariants.{Null}
use Rattle.psm_value.specs.Order.{data_order}

-- the row's values in the columns, as in its key; a column that doesn't exist counts as null
abbrev pub values_at : List ℕ → List Datum → List Datum
values_at columns row = map (λ c. slice_index_or row c Null) columns

-- the order of two keys: the first values that differ decide, numbers by value and texts padded
abbrev pub key_order : List Datum → List Datum → Ordering
key_order a b = slice_cmp data_order a b

-- the order of a row's key and a key
abbrev pub row_order : List ℕ → List Datum → List Datum → Ordering
row_order columns key row = key_order (values_at columns row) key

-- each of the columns is one of the row's
abbrev pub AreColumnsOf : List Datum → List ℕ → Type 0
AreColumnsOf row columns = All (λ c. c < length row) columns
