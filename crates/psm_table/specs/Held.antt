-- What a table is made of: a map from keys to rows, and for each UNIQUE list and each index the set of its entries.
use Rattle.std.specs.Prelude.{◌≡◌, ℕ, ◌+◌, ◌<◌, List, length, map, take, All, Option, Some, None, IfSome}
use Rattle.std.specs.declared.cmp.Ordering.TheVariants.{Equal}
use Rattle.std.specs.List.{filter_map, AllZip}
use Rattle.psm_value.specs.declared.datum.Datum.{Datum}
use Rattle.psm_table.specs.declared.definition.TableDef.{TableDef}
use Rattle.psm_table.specs.declared.map.Pair.{Pair}
use Rattle.psm_table.specs.Key.{row_order}
use Rattle.psm_table.specs.Map.{keys_of, value_of, AreAscending}
use Rattle.psm_table.specs.Mapped.{Mapped}
use Rattle.psm_table.specs.State.{State, HasEntry, KeepsAtMost}
use Rattle.psm_table.specs.Table.{Contents, IsTable}

-- the rows of the keys that have one
abbrev pub live_rows : List (Pair (Option (List Datum))) → List (List Datum)
live_rows pairs = filter_map (λ p. p.value) pairs

-- the row that may be there
abbrev pub the_row : Option (Option (List Datum)) → Option (List Datum)
the_row None = None
the_row (Some row) = row

-- the row of a key, if it has one
abbrev pub row_of : List Datum → List (Pair (Option (List Datum))) → Option (List Datum)
row_of key pairs = the_row (value_of key pairs)

-- the entries of each set
abbrev pub entries_of : List (Mapped (Unit {0})) → List (List (List Datum))
entries_of indexes = map (λ m. keys_of m.pairs) indexes

-- the table of a definition and the rows of a map
abbrev pub contents_of : TableDef → Mapped (Option (List Datum)) → Contents
contents_of def rows = record { def = def; rows = live_rows rows.pairs }

-- the table as its callers see it
abbrev pub state_of : TableDef → List (List ℕ) → Mapped (Option (List Datum)) → List (Mapped (Unit {0})) → State
state_of def lists rows indexes = record { contents = contents_of def rows; slots = keys_of rows.pairs; lists = lists; entries = entries_of indexes }

-- the row of a pair has the pair's key
abbrev pub HasItsKey : List ℕ → Pair (Option (List Datum)) → Type 0
HasItsKey columns p = IfSome p.value (λ row. row_order columns p.key row ≡ Equal)

-- the entries of a row in the lists are there
abbrev pub IsEntered : TableDef → List (List ℕ) → List (List (List Datum)) → List Datum → Type 0
IsEntered def lists entries row = AllZip (HasEntry def row) lists entries

-- the keys ascend, and the rows are a table, as many as are counted, each at its key, and each with its entries in the
-- lists, of which the first are the UNIQUE ones
pub record IsHeld (def : TableDef) (lists : List (List ℕ)) (rows : Mapped (Option (List Datum))) (live : ℕ) (indexes : List (Mapped (Unit {0}))) : Type 0 where
  pub order : AreAscending rows.pairs
  pub table : IsTable (contents_of def rows)
  pub count : live ≡ length (live_rows rows.pairs)
  pub keyed : All (HasItsKey def.key) rows.pairs
  pub unique : take (length def.unique) lists ≡ def.unique
  pub sets : length indexes ≡ length lists
  pub entered : All (IsEntered def lists (entries_of indexes)) (live_rows rows.pairs)

-- the count of 64 bits that isn't raised any more
abbrev pub full_count : ℕ
full_count = 18446744073709551615

-- unless the count of the rows that were left is full, no more is kept than the rows of the table and those
abbrev pub AreCounted : State → ℕ → Type 0
AreCounted s left = left < full_count → KeepsAtMost (length s.contents.rows + left) s
