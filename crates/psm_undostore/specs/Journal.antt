-- A journal of changes of rows, which can be undone without memory.
use Rattle.std.specs.Prelude.{◌≡◌, ◌≢◌, ℕ, ◌+◌, ◌<◌, ◌≤◌, List, [], ◌∷◌, ◌++◌, length, take, drop, All, slice_index_or, slice_set, Option, Some, None, Result, Ok, Err}
use Rattle.std.specs.Option.{ForSome}
use Rattle.psm_value.specs.declared.datum.Datum.{Datum}
use Rattle.psm_table.specs.declared.fault.RowFault.{RowFault}
use Rattle.psm_table.specs.Definition.{IsRow, IsKey}
use Rattle.psm_table.specs.State.{State, KeepsRow, StillKeeps}
use Rattle.psm_table.specs.Table.{IsTable}
use Rattle.psm_undostore.specs.declared.entry.Change.{Change}
use Rattle.psm_undostore.specs.declared.entry.Change.TheVariants.{Inserted, Erased, Changed}
use Rattle.psm_undostore.specs.declared.entry.Entry.{Entry}
use Rattle.psm_undostore.specs.Undone.{undone, undone_in, before}

-- the key of the row that was put in
abbrev pub new_key : Change → Option (List Datum)
new_key (Inserted key) = Some key
new_key (Erased row) = None
new_key (Changed row) = None

-- the row that was taken or put out
abbrev pub old_row : Change → Option (List Datum)
old_row (Inserted key) = None
old_row (Erased row) = Some row
old_row (Changed row) = Some row

-- the key is one of the table, and the row fits it and is kept by it
pub record CanUndo (s : State) (c : Change) : Type 0 where
  pub key : ForSome (new_key c) (IsKey s.contents.def)
  pub fits : ForSome (old_row c) (IsRow s.contents.def)
  pub kept : ForSome (old_row c) (KeepsRow s)

-- the entry is about one of the tables, which can undo it
pub record IsReady (states : List State) (e : Entry) : Type 0 where
  pub inside : e.table < length states
  pub can : (d : State) → CanUndo (slice_index_or states e.table d) e.change

-- each entry can be undone, and undoing it and those after it, the last first, leaves a table
pub record AreUndoable (states : List State) (entries : List Entry) : Type 0 where
  pub ready : All (IsReady states) entries
  pub tables : (k : ℕ) (e : Entry) (d : State) → k < length entries →
      IsTable (undone_in (slice_index_or entries k e).table (drop k entries) (slice_index_or states (slice_index_or entries k e).table d).contents)

-- a change leads a table from one state to another, from which it can be undone
pub record Leads (c : Change) (old new : State) : Type 0 where
  pub back : undone c new.contents ≡ old.contents
  pub def : new.contents.def ≡ old.contents.def
  pub keeps : StillKeeps old new
  pub can : CanUndo new c
  pub table : IsTable old.contents

-- a row call on table number t leads it from one state to another, and its entry stands at the end; a refusal changes nothing
abbrev pub Records : Result (Unit {0}) RowFault → ℕ → State → State → List Entry → List Entry → Type 0
Records (Ok _) t old new entries more = (c : Change) × (more ≡ entries ++ (record { table = t; change = c }) ∷ []) × Leads c old new
Records (Err _) t old new entries more = (new ≡ old) × (more ≡ entries)

-- after the entries that were there stand n more, which are about table number t, and from before each of the
-- entries that were there the tables are as they were; the other tables stay
pub record Extends (t : ℕ) (old new : List State) (entries more : List Entry) (count : ℕ) : Type 0 where
  pub longer : length more ≡ length entries + count
  pub first : take (length entries) more ≡ entries
  pub about : All (λ e. e.table ≡ t) (drop (length entries) more)
  pub same : (position : ℕ) → position ≤ length entries → before position more new ≡ before position entries old
  pub others : (k : ℕ) (d : State) → k ≢ t → slice_index_or new k d ≡ slice_index_or old k d

-- each table that none of these entries is about stays
abbrev pub OthersStay : List Entry → List State → List State → Type 0
OthersStay entries old new = (t : ℕ) → All (λ e. e.table ≢ t) entries → (d : State) → slice_index_or new t d ≡ slice_index_or old t d

-- the table of an entry is led back, and the others stay
pub record Takes (e : Entry) (old new : List State) : Type 0 where
  pub state : State
  pub others : new ≡ slice_set old e.table state
  pub back : (d : State) → state.contents ≡ undone e.change (slice_index_or old e.table d).contents
  pub keeps : (d : State) → StillKeeps (slice_index_or old e.table d) state
