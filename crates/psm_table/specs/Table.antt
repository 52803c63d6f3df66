-- Tables: what is in them, and what the calls that change one row do to that.
use Rattle.std.specs.Prelude.{ℕ, ◌≤◌, List, [], length, All, Option}
use Rattle.psm_value.specs.declared.datum.Datum.{Datum}
use Rattle.psm_table.specs.declared.definition.TableDef.{TableDef}
use Rattle.psm_table.specs.Definition.{IsDefinition, IsRow}
use Rattle.psm_table.specs.Key.{values_at}
use Rattle.psm_table.specs.Rows.{IsAscending, row_with, put, without}

-- a definition and rows
pub record Contents : Type 0 where
  pub def : TableDef
  pub rows : List (List Datum)

-- the most rows that a table has
abbrev pub most_rows : ℕ
most_rows = 200000

-- the definition is one, and the rows fit it, ascend by the key and aren't too many
pub record IsTable (t : Contents) : Type 0 where
  pub defined : IsDefinition t.def
  pub fit : All (IsRow t.def) t.rows
  pub ascend : IsAscending t.def.key t.rows
  pub bound : length t.rows ≤ most_rows

-- a table without rows
abbrev pub empty_table : TableDef → Contents
empty_table def = record { def = def; rows = [] }

-- the table with the row in the place of its key
abbrev pub with_row : Contents → List Datum → Contents
with_row t row = record t { rows = put t.def.key row t.rows }

-- the table without the row that has the key
abbrev pub without_row : List Datum → Contents → Contents
without_row key t = record t { rows = without t.def.key key t.rows }

-- the row that has a key
abbrev pub keyed : Contents → List Datum → Option (List Datum)
keyed t key = row_with t.def.key key t.rows

-- the row that has the key of a row
abbrev pub namesake : Contents → List Datum → Option (List Datum)
namesake t row = keyed t (values_at t.def.key row)
