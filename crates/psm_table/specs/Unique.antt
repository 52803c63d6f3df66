-- UNIQUE lists of columns (ISO/IEC 9075:1992, 8.9 and 11.7).
use Rattle.std.specs.Prelude.{◌≡◌, ℕ, Bool, true, false, not, ◌&&◌, List, All, AllPairs}
use Rattle.std.specs.List.{list_any}
use Rattle.std.specs.Ordering.{is_eq, is_ne}
use Rattle.psm_value.specs.declared.datum.Datum.{Datum}
use Rattle.psm_value.specs.declared.datum.Datum.TheVariants.{Null, Num, Text}
use Rattle.psm_value.specs.Order.{data_order}
use Rattle.psm_table.specs.declared.definition.TableDef.{TableDef}
use Rattle.psm_table.specs.Key.{values_at, key_order, row_order}

-- whether it is null
abbrev pub is_null : Datum → Bool
is_null Null = true
is_null (Num n) = false
is_null (Text t) = false

-- whether a list of values has a null
abbrev pub has_null : List Datum → Bool
has_null values = list_any is_null values

-- whether neither of two lists of values has a null, and they are equal
abbrev pub equal_values : List Datum → List Datum → Bool
equal_values a b = not (has_null a) && (not (has_null b) && is_eq (key_order a b))

-- whether two rows have no null in the columns and equal values there
abbrev pub agree : List Datum → List Datum → List ℕ → Bool
agree a b columns = equal_values (values_at columns a) (values_at columns b)

-- whether two rows agree in one of the definition's UNIQUE lists
abbrev pub conflict : TableDef → List Datum → List Datum → Bool
conflict def a b = list_any (agree a b) def.unique

-- whether another row has another key and agrees with the row in a UNIQUE list
abbrev pub is_rival : TableDef → List Datum → List Datum → Bool
is_rival def row other = is_ne (row_order def.key (values_at def.key row) other) && conflict def other row

-- whether one of the rows has another key and agrees with the row in a UNIQUE list
abbrev pub clashes : TableDef → List Datum → List (List Datum) → Bool
clashes def row rows = list_any (is_rival def row) rows

-- whether neither of two values is null, and they are equal
abbrev pub equal_value : Datum → Datum → Bool
equal_value a b = not (is_null a) && (not (is_null b) && is_eq (data_order a b))

-- no two rows agree in the columns
abbrev pub IsUnique : List (List Datum) → List ℕ → Type 0
IsUnique rows columns = AllPairs (λ a b. agree a b columns ≡ false) rows

-- no two rows agree in one of the definition's UNIQUE lists
abbrev pub AreUnique : TableDef → List (List Datum) → Type 0
AreUnique def rows = All (IsUnique rows) def.unique
