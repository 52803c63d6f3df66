-- Which plans stand for INSERT, UPDATE and DELETE: they do the same with all rows and over all variables.
use Rattle.std.specs.Prelude.{◌≡◌, ℕ, Bool, List, [], ◌∷◌, length, map, slice_get, Option, Some, None}
use Rattle.psm_value.specs.declared.datum.Datum.{Datum}
use Rattle.psm_exprcode.specs.declared.op.Line.{Line}
use Rattle.psm_exprcode.specs.declared.set_item.SetItem.{SetItem}
use Rattle.psm_table.specs.Changing.{deleted, deleted_at, inserted, updated, updated_at}
use Rattle.psm_tablecode.specs.Codes as codes
use Rattle.psm_resolved.specs.declared.expr.ResolvedExpr.{ResolvedExpr}
use Rattle.psm_resolved.specs.declared.file.ResolvedFile.{ResolvedFile}
use Rattle.psm_resolved.specs.declared.file.ResolvedTable.{ResolvedTable}
use Rattle.psm_resolved.specs.declared.statement.ResolvedCursor.{ResolvedCursor}
use Rattle.psm_resolved.specs.declared.statement.ResolvedSet.{ResolvedSet}
use Rattle.psm_meaning.specs.Data as meaning
use Rattle.psm_meaning.specs.Rows as trees
use Rattle.psm_code.specs.declared.code.CodeTable.{CodeTable}
use Rattle.psm_code.specs.declared.code.RawCode.{RawCode}
use Rattle.psm_code.specs.declared.code.RawRoutine.{RawRoutine}
use Rattle.psm_code.specs.Plans as plans
use Rattle.psm_simulation.specs.Expressions.{PutsAll}

-- ---- tables

-- a table of the code has the definition of one of the file, and takes the same rows
pub record TableStands (t : ResolvedTable) (u : CodeTable) : Type 0 where
  pub definition : u.definition ≡ t.definition
  pub inserts : (keyed : List (List Datum) → Bool) (new rows : List (List Datum)) → inserted plans.plain (plans.schema_of keyed u) new rows ≡ inserted meaning.plain (meaning.schema_of keyed t) new rows

-- both are missing, or one stands for the other
abbrev pub SameTable : Option ResolvedTable → Option CodeTable → Type 0
SameTable None None = Unit {0}
SameTable None (Some u) = ⊥
SameTable (Some t) None = ⊥
SameTable (Some t) (Some u) = TableStands t u

-- the same at a number, among the same FOREIGN KEY constraints
abbrev pub SameAt : ResolvedFile → RawCode → ℕ → Type 0
SameAt file code n = (code.keys ≡ file.keys) × SameTable (slice_get file.tables n) (slice_get code.tables n)

abbrev pub TablesStand : ResolvedFile → RawCode → Type 0
TablesStand file code = (n : ℕ) → SameAt file code n

-- ---- INSERT

-- the expressions of rows one after another, and as many of each row as there are columns
abbrev pub PutsRows : ResolvedFile → RawCode → RawRoutine → ℕ → ℕ → ℕ → List (List ResolvedExpr) → ℕ → ℕ → Type 0
PutsRows file code r context resume width [] pc end = pc ≡ end
PutsRows file code r context resume width (row ∷ rows) pc end =
    (mid : ℕ) × (length row ≡ width) × PutsAll file code r context resume row pc mid × PutsRows file code r context resume width rows mid end

-- ---- UPDATE and DELETE

-- the columns that are set, and the test, change a table as they do in the statement
pub record IsUpdate (file : ResolvedFile) (code : RawCode) (table : ℕ) (sets : List ResolvedSet) (test : Option ResolvedExpr) (coded : List SetItem) (coded_test : Option (List Line)) : Type 0 where
  pub same : (t : ResolvedTable) (u : CodeTable) → slice_get file.tables table ≡ Some t → slice_get code.tables table ≡ Some u → (keyed : List (List Datum) → Bool) (vars : List Datum) (rows : List (List Datum))
      → updated (codes.over vars) plans.plain (plans.schema_of keyed u) (map plans.set_item coded) coded_test rows ≡ updated (trees.over vars) meaning.plain (meaning.schema_of keyed t) (map meaning.set_item sets) test rows

-- the test takes the same rows out of a table
pub record IsDelete (file : ResolvedFile) (code : RawCode) (table : ℕ) (test : Option ResolvedExpr) (coded_test : Option (List Line)) : Type 0 where
  pub same : (t : ResolvedTable) (u : CodeTable) → slice_get file.tables table ≡ Some t → slice_get code.tables table ≡ Some u → (keyed : List (List Datum) → Bool) (vars : List Datum) (rows : List (List Datum))
      → deleted (codes.over vars) plans.plain (plans.schema_of keyed u) coded_test rows ≡ deleted (trees.over vars) meaning.plain (meaning.schema_of keyed t) test rows

-- ---- positioned statements

-- The query of the cursor is over the table that the statement names: a plan takes its table from the cursor.
abbrev pub IsOver : ResolvedCursor → ℕ → Type 0
IsOver x table = (trees.query_of x.query).table ≡ table

-- a table is left without a row as it is in the statement
pub record IsDeleteAt (file : ResolvedFile) (code : RawCode) (table : ℕ) : Type 0 where
  pub same : (t : ResolvedTable) (u : CodeTable) → slice_get file.tables table ≡ Some t → slice_get code.tables table ≡ Some u → (keyed : List (List Datum) → Bool) (row : List Datum) (rows : List (List Datum))
      → deleted_at plans.plain (plans.schema_of keyed u) row rows ≡ deleted_at meaning.plain (meaning.schema_of keyed t) row rows

-- the columns that are set change each row of a table as they do in the statement
pub record IsUpdateAt (file : ResolvedFile) (code : RawCode) (table : ℕ) (sets : List ResolvedSet) (coded : List SetItem) : Type 0 where
  pub same : (t : ResolvedTable) (u : CodeTable) → slice_get file.tables table ≡ Some t → slice_get code.tables table ≡ Some u → (keyed : List (List Datum) → Bool) (vars : List Datum) (row : List Datum) (rows : List (List Datum))
      → updated_at (codes.over vars) plans.plain (plans.schema_of keyed u) (map plans.set_item coded) row rows ≡ updated_at (trees.over vars) meaning.plain (meaning.schema_of keyed t) (map meaning.set_item sets) row rows
