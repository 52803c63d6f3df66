-- The entries of lists of columns, UNIQUE ones and others: what is added to them and taken from them, and which match a row.
use Rattle.std.specs.Prelude.{◌≡◌, ℕ, ◌+◌, ◌≤◌, ◌<◌, Bool, true, false, not, ◌&&◌, ◌++◌, List, length, drop, All, Option, Some, None, IfSome, slice_index_or}
use Rattle.std.specs.Ordering.{is_eq}
use Rattle.psm_value.specs.declared.datum.Datum.{Datum}
use Rattle.psm_table.specs.declared.definition.TableDef.{TableDef}
use Rattle.psm_table.specs.declared.map.Pair.{Pair}
use Rattle.psm_table.specs.Held.{row_of, IsEntered}
use Rattle.psm_table.specs.Key.{values_at, key_order, AreColumnsOf}
use Rattle.psm_table.specs.Map.{keys_of, prefix_order}
use Rattle.psm_table.specs.Mapped.{Mapped}
use Rattle.psm_table.specs.State.{has_key}
use Rattle.psm_table.specs.Unique.{equal_values, has_null, is_rival}

-- no set loses an entry
abbrev pub Grow : List (List (List Datum)) → List (List (List Datum)) → Type 0
Grow old new = (k : ℕ) (d e : List (List Datum)) (key : List Datum) → k < length old → has_key (slice_index_or old k d) key ≡ true → has_key (slice_index_or new k e) key ≡ true

-- no set has more than one entry more
abbrev pub GrowByOne : List (List (List Datum)) → List (List (List Datum)) → Type 0
GrowByOne old new = (k : ℕ) (d : List (List Datum)) → k < length old → length (slice_index_or new k d) ≤ length (slice_index_or old k d) + 1

-- the entry of a row, for which a set has memory; none if the row has a null in the columns
abbrev pub IsPrepared : List ℕ → List ℕ → List Datum → Mapped (Unit {0}) → Option (List Datum) → Type 0
IsPrepared columns key row index None = has_null (values_at columns row) ≡ true
IsPrepared columns key row index (Some entry) = (entry ≡ values_at columns row ++ values_at key row) × (index.ready ≡ true)

-- at the index of each set stands the entry of a row, unless it needs none
pub record ArePrepared (def : TableDef) (columns : List (List ℕ)) (row : List Datum) (indexes : List (Mapped (Unit {0}))) (entries : List (Option (List Datum))) : Type 0 where
  pub lists : length entries ≡ length indexes
  pub each : (k : ℕ) (c : List ℕ) (m : Mapped (Unit {0})) (o : Option (List Datum)) → k < length indexes →
      IsPrepared (slice_index_or columns k c) def.key row (slice_index_or indexes k m) (slice_index_or entries k o)

-- a set has memory for an entry, if there is one
abbrev pub HasRoom : Mapped (Unit {0}) → Option (List Datum) → Type 0
HasRoom index entry = IfSome entry (λ e. index.ready ≡ true)

-- each set has memory for the entry at its index
abbrev pub HaveRoom : List (Mapped (Unit {0})) → List (Option (List Datum)) → Type 0
HaveRoom indexes entries = (k : ℕ) (m : Mapped (Unit {0})) (o : Option (List Datum)) → k < length indexes → HasRoom (slice_index_or indexes k m) (slice_index_or entries k o)

-- a set into which an entry was put, if there is one: it loses none, has one more at most, and the entry is there
pub record IsPut (old new : Mapped (Unit {0})) (entry : Option (List Datum)) : Type 0 where
  pub grown : (key : List Datum) → has_key (keys_of old.pairs) key ≡ true → has_key (keys_of new.pairs) key ≡ true
  pub one : length (keys_of new.pairs) ≤ length (keys_of old.pairs) + 1
  pub there : IfSome entry (λ e. has_key (keys_of new.pairs) e ≡ true)

-- into each set the entry at its index was put
abbrev pub ArePut : List (Mapped (Unit {0})) → List (Mapped (Unit {0})) → List (Option (List Datum)) → Type 0
ArePut old new entries = (k : ℕ) (m : Mapped (Unit {0})) (o : Option (List Datum)) → k < length old → IsPut (slice_index_or old k m) (slice_index_or new k m) (slice_index_or entries k o)

-- each row has its entries in the lists
abbrev pub AreEntered : TableDef → List (List ℕ) → List (List Datum) → List (List (List Datum)) → Type 0
AreEntered def lists rows entries = All (IsEntered def lists entries) rows

-- each row has the columns of the key
abbrev pub HaveKeys : TableDef → List (List Datum) → Type 0
HaveKeys def rows = All (λ row. AreColumnsOf row def.key) rows

-- whether a key has a row that has another key than the row and agrees with it in a UNIQUE list
abbrev pub rival_at : TableDef → List Datum → Option (List Datum) → Bool
rival_at def row None = false
rival_at def row (Some other) = is_rival def row other

-- whether a key has a row, which has the values in the columns
abbrev pub row_has : List ℕ → List Datum → Option (List Datum) → Bool
row_has columns values None = false
row_has columns values (Some row) = equal_values values (values_at columns row)

-- no entry with the row's values in the columns is that of a rival
abbrev pub AreHarmless : TableDef → List ℕ → List (Pair (Option (List Datum))) → List Datum → List (Pair (Unit {0})) → Type 0
AreHarmless def columns pairs row entries =
    All (λ p. is_eq (prefix_order (values_at columns row) p.key) ≡ true → rival_at def row (row_of (drop (length columns) p.key) pairs) ≡ false) entries

-- whether an entry is that of a row, which has no null in the columns
abbrev pub is_entry : List ℕ → List ℕ → List Datum → List Datum → Bool
is_entry key columns entry row = not (has_null (values_at columns row)) && is_eq (key_order entry (values_at columns row ++ values_at key row))

-- whether an entry is that of the row that its key has, if it has one
abbrev pub is_current : List ℕ → List ℕ → List Datum → Option (List Datum) → Bool
is_current key columns entry None = false
is_current key columns entry (Some row) = is_entry key columns entry row
