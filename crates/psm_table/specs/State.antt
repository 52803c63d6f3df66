-- What a table keeps beside its contents, so that rows which were taken out can be put back without memory.
use Rattle.std.specs.Prelude.{◌≡◌, Bool, true, false, ℕ, ◌+◌, ◌*◌, ◌<◌, ◌≤◌, ◌++◌, List, length, All, Some, None, IsSome, Result, Ok, Err}
use Rattle.std.specs.List.{list_any, AllZip}
use Rattle.std.specs.Ordering.{is_eq}
use Rattle.psm_value.specs.declared.datum.Datum.{Datum}
use Rattle.psm_table.specs.declared.definition.TableDef.{TableDef}
use Rattle.psm_table.specs.declared.fault.RowFault.{RowFault}
use Rattle.psm_table.specs.declared.fault.RowFault.TheVariants.{Duplicate, Absent, Full, Memory}
use Rattle.psm_table.specs.Key.{values_at, key_order}
use Rattle.psm_table.specs.Table.{Contents, most_rows, namesake, with_row}
use Rattle.psm_table.specs.Unique.{has_null}

-- The contents; the keys that have a slot, be their rows there or taken out; the lists of columns in which entries are
-- kept, the UNIQUE ones and those of indexes; and the entries of each, each the values of a row in the columns of the
-- list, followed by the row's key.
pub record State : Type 0 where
  pub contents : Contents
  pub slots : List (List Datum)
  pub lists : List (List ℕ)
  pub entries : List (List (List Datum))

-- whether one of the keys is equal to a key
abbrev pub has_key : List (List Datum) → List Datum → Bool
has_key keys key = list_any (λ k. is_eq (key_order k key)) keys

-- the entry of a row in a list of columns
abbrev pub entry_of : TableDef → List ℕ → List Datum → List Datum
entry_of def columns row = values_at columns row ++ values_at def.key row

-- the entry of the row is there, unless the row has a null in the columns
abbrev pub HasEntry : TableDef → List Datum → List ℕ → List (List Datum) → Type 0
HasEntry def row columns entries = has_null (values_at columns row) ≡ false → has_key entries (entry_of def columns row) ≡ true

-- the table keeps the row: its key has a slot, and its entries in all lists are there
pub record KeepsRow (s : State) (row : List Datum) : Type 0 where
  pub slot : has_key s.slots (values_at s.contents.def.key row) ≡ true
  pub entries : AllZip (HasEntry s.contents.def row) s.lists s.entries

-- each row that was kept is kept
abbrev pub StillKeeps : State → State → Type 0
StillKeeps old new = (row : List Datum) → KeepsRow old row → KeepsRow new row

-- no more keys have a slot, and no list has more entries
pub record KeepsAtMost (most : ℕ) (s : State) : Type 0 where
  pub slots : length s.slots ≤ most
  pub entries : All (λ es. length es ≤ most) s.entries

-- n rows that are not in the table may be kept at any size of it
abbrev pub few_left : ℕ
few_left = 64

-- rows that were taken or put out are let go: no more is kept than twice the rows that the table has, and a few
abbrev pub IsTidy : State → Type 0
IsTidy s = KeepsAtMost (2 * length s.contents.rows + few_left) s

-- an insertion of a row, which takes one row step: a full table comes before a row that has the key, and memory
-- may run out at any time; a refusal changes nothing
abbrev pub Inserts : State → State → List Datum → ℕ → ℕ → Result (Unit {0}) RowFault → Type 0
Inserts old new row before after (Ok u) =
    (length old.contents.rows < most_rows) × (namesake old.contents row ≡ None) × (new.contents ≡ with_row old.contents row) × (after ≡ before + 1)
Inserts old new row before after (Err Full) = (length old.contents.rows ≡ most_rows) × (new ≡ old) × (after ≡ before)
Inserts old new row before after (Err Duplicate) =
    (length old.contents.rows < most_rows) × IsSome (namesake old.contents row) × (new ≡ old) × (after ≡ before)
Inserts old new row before after (Err Memory) = (new ≡ old) × (after ≡ before)
Inserts old new row before after (Err Absent) = ⊥

-- a replacement of the row that has the key, which takes one row step: it is refused where no row has the key, and
-- memory may run out at any time; a refusal changes nothing
abbrev pub Changes : State → State → List Datum → ℕ → ℕ → Result (List Datum) RowFault → Type 0
Changes old new row before after (Ok was) =
    (namesake old.contents row ≡ Some was) × (new.contents ≡ with_row old.contents row) × (after ≡ before + 1)
Changes old new row before after (Err Absent) = (namesake old.contents row ≡ None) × (new ≡ old) × (after ≡ before)
Changes old new row before after (Err Memory) = (new ≡ old) × (after ≡ before)
Changes old new row before after (Err Duplicate) = ⊥
Changes old new row before after (Err Full) = ⊥
