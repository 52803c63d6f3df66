-- FOREIGN KEY constraints (ISO/IEC 9075:1992, 11.8), tested over the rows of all tables, which have numbers.
use Rattle.std.specs.Prelude.{◌≡◌, ◌<◌, ℕ, All, Bool, true, ◌||◌, List, [], Some, if◌then◌else◌, length, map, nat_eq, slice_get, slice_index_or, slice_set}
use Rattle.std.specs.List.{list_all, list_any}
use Rattle.psm_value.specs.declared.datum.Datum.{Datum}
use Rattle.psm_table.specs.declared.definition.ForeignKey.{ForeignKey}
use Rattle.psm_table.specs.declared.definition.TableDef.{TableDef}
use Rattle.psm_table.specs.Key.{values_at}
use Rattle.psm_table.specs.Table.{Contents}
use Rattle.psm_table.specs.Unique.{equal_values, has_null}

-- the table is there, with these columns
abbrev pub HasColumnsAt : List TableDef → ℕ → List ℕ → Type 0
HasColumnsAt defs t columns = (def : TableDef) × (slice_get defs t ≡ Some def) × All (λ c. c < length def.columns) columns

-- a constraint is one of tables with these definitions: both tables are there, with the columns that it names
pub record IsKeyOf (defs : List TableDef) (key : ForeignKey) : Type 0 where
  pub refers : HasColumnsAt defs key.from key.columns
  pub referred : HasColumnsAt defs key.to key.target

-- the definitions of tables
abbrev pub defs_in : List Contents → List TableDef
defs_in tables = map (λ c. c.def) tables

-- the rows of each table
abbrev pub rows_in : List Contents → List (List (List Datum))
rows_in tables = map (λ c. c.rows) tables

-- the rows of a table
abbrev pub rows_at : List (List (List Datum)) → ℕ → List (List Datum)
rows_at tables n = slice_index_or tables n []

-- whether one of the rows has the values in the columns, none of them null
abbrev pub has_values : List ℕ → List Datum → List (List Datum) → Bool
has_values columns values rows = list_any (λ row. equal_values values (values_at columns row)) rows

-- whether a row has a null in the columns, or one of the others has the same values in the columns that are referred to
abbrev pub is_referred : List ℕ → List ℕ → List (List Datum) → List Datum → Bool
is_referred columns target others row = has_null (values_at columns row) || has_values target (values_at columns row) others

-- whether each row of the referencing table is so
abbrev pub is_keyed : List (List (List Datum)) → ForeignKey → Bool
is_keyed tables key = list_all (is_referred key.columns key.target (rows_at tables key.to)) (rows_at tables key.from)

abbrev pub are_keyed : List ForeignKey → List (List (List Datum)) → Bool
are_keyed keys tables = list_all (is_keyed tables) keys

-- whether all are so if the rows of a table were these
abbrev pub are_keyed_with : List ForeignKey → List (List (List Datum)) → ℕ → List (List Datum) → Bool
are_keyed_with keys tables t rows = are_keyed keys (slice_set tables t rows)

-- what a statement has to look at of a constraint that held, if it adds rows to table t and takes none out: each new row, if
-- it is the referencing one
abbrev pub new_are_referred : ForeignKey → ℕ → List (List (List Datum)) → List (List Datum) → Bool
new_are_referred key t tables new = if nat_eq key.from t then list_all (is_referred key.columns key.target (rows_at tables key.to)) new else true
