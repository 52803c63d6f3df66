-- Matching entries: entries of a list whose row has given values.
use Rattle.std.specs.Prelude.{◌≡◌, ℕ, Bool, true, ◌&&◌, List, ◌∷◌, length, drop, filter, Option, Some, None, if◌then◌else◌}
use Rattle.std.specs.Ordering.{is_eq}
use Rattle.psm_value.specs.declared.datum.Datum.{Datum}
use Rattle.psm_table.specs.declared.map.Pair.{Pair}
use Rattle.psm_table.specs.Held.{row_of}
use Rattle.psm_table.specs.Index.{row_has}
use Rattle.psm_table.specs.Key.{values_at}
use Rattle.psm_table.specs.Map.{pairs_above, prefix_order}
use Rattle.psm_table.specs.Unique.{equal_values}

-- the row that may be there, if it has the values in the columns
abbrev pub row_having : List ℕ → List Datum → Option (List Datum) → Option (List Datum)
row_having columns values None = None
row_having columns values (Some row) = if equal_values values (values_at columns row) then Some row else None

-- whether an entry matches: it begins with the values, and its key has a row with them
abbrev pub is_matching : List ℕ → List Datum → List (Pair (Option (List Datum))) → Pair (Unit {0}) → Bool
is_matching columns values pairs e = is_eq (prefix_order values e.key) && row_has columns values (row_of (drop (length columns) e.key) pairs)

-- the matching entries among some
abbrev pub matching_entries : List ℕ → List Datum → List (Pair (Option (List Datum))) → List (Pair (Unit {0})) → List (Pair (Unit {0}))
matching_entries columns values pairs entries = filter (is_matching columns values pairs) entries

-- an entry is the first matching one of some, and this is its row; the other matching ones are those after it among all entries
pub record IsFirst (columns : List ℕ) (values : List Datum) (pairs : List (Pair (Option (List Datum)))) (entries some : List (Pair (Unit {0}))) (e : Pair (Unit {0})) (row : List Datum) : Type 0 where
  pub begins : is_eq (prefix_order values e.key) ≡ true
  pub its : row_of (drop (length columns) e.key) pairs ≡ Some row
  pub has : equal_values values (values_at columns row) ≡ true
  pub rest : matching_entries columns values pairs some ≡ e ∷ matching_entries columns values pairs (pairs_above e.key entries)
