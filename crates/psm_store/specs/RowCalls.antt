-- Insertions, removals and replacements of rows of one of several tables.
use Rattle.std.specs.Prelude.{◌≡◌, ℕ, ◌<◌, List, length, slice_get, slice_set, Option, option_map, Some, None, IsSome, Result, Ok, Err}
use Rattle.psm_value.specs.declared.datum.Datum.{Datum}
use Rattle.psm_table.specs.declared.fault.RowFault.{RowFault}
use Rattle.psm_table.specs.declared.fault.RowFault.TheVariants.{Duplicate, Absent, Full, Memory}
use Rattle.psm_table.specs.Table.{Contents, most_rows, namesake}

-- the tables with another in the place of one of them
abbrev pub put_table : List Contents → ℕ → Option Contents → List Contents
put_table tables t None = tables
put_table tables t (Some table) = slice_set tables t table

-- the tables with table t as a change leaves it
abbrev pub changed_at : (Contents → Contents) → List Contents → ℕ → List Contents
changed_at change tables t = put_table tables t (option_map change (slice_get tables t))

-- the tables after a row call: a refusal changes nothing
abbrev pub after : Result (Unit {0}) RowFault → (Contents → Contents) → List Contents → ℕ → List Contents
after (Ok _) change tables t = changed_at change tables t
after (Err _) change tables t = tables

-- a table after a row call
abbrev pub row_after : Result (Unit {0}) RowFault → (Contents → Contents) → Contents → Contents
row_after (Ok _) change t = change t
row_after (Err _) change t = t

-- what an insertion answers: a full table comes first, and then a row that has the key; memory may run out at any time
abbrev pub AnswersInsert : List Datum → Result (Unit {0}) RowFault → Contents → Type 0
AnswersInsert row (Ok _) t = (length t.rows < most_rows) × (namesake t row ≡ None)
AnswersInsert row (Err Full) t = length t.rows ≡ most_rows
AnswersInsert row (Err Duplicate) t = (length t.rows < most_rows) × IsSome (namesake t row)
AnswersInsert row (Err Memory) t = Unit {0}
AnswersInsert row (Err Absent) t = ⊥

-- what a call that needs a row answers: that no row is there, or that memory ran out, which may be at any time
abbrev pub AnswersFound : Option (List Datum) → Result (Unit {0}) RowFault → Type 0
AnswersFound found (Ok _) = IsSome found
AnswersFound found (Err Absent) = found ≡ None
AnswersFound found (Err Memory) = Unit {0}
AnswersFound found (Err Full) = ⊥
AnswersFound found (Err Duplicate) = ⊥
