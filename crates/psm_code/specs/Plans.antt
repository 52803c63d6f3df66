-- Plans: what INSERT, UPDATE and DELETE do in code (ISO/IEC 9075:1992, 13.6 to 13.10).
use Rattle.std.specs.Prelude.{ℕ, zero, suc, ◌*◌, Bool, true, false, List, [], ◌∷◌, codes, drop, length, map, slice_get, take, Option, Some, None, Result, Ok, Err}
use Rattle.psm_value.specs.declared.datum.Datum.{Datum}
use Rattle.psm_cond.specs.Condition.{alone}
use Rattle.psm_cond.specs.Entry.{entry_of, name_text}
use Rattle.psm_exprcode.specs.declared.op.Line.{Line}
use Rattle.psm_exprcode.specs.declared.set_item.SetItem as set_code
use Rattle.psm_table.specs.Changing.{Failure, Raised, OfTable, Schema, SetItem, deleted, deleted_at, inserted, updated, updated_at}
use Rattle.psm_table.specs.Cursors.{Cursor, Closed, Plain, Insensitive, current, without_row}
use Rattle.psm_table.specs.Evaluator.{Evaluator}
use Rattle.psm_table.specs.Keyed.{are_keyed_with, rows_in}
use Rattle.psm_table.specs.Table.{Contents}
use Rattle.psm_table.specs.declared.definition.TableDef.{TableDef}
use Rattle.psm_tablecode.specs.Codes.{over}
use Rattle.psm_tablecode.specs.NewRows.{new_row}
use Rattle.psm_code.specs.declared.code.CodeCursor.{CodeCursor}
use Rattle.psm_code.specs.declared.code.CodeTable.{CodeTable}
use Rattle.psm_code.specs.declared.code.Plan.{Plan}
use Rattle.psm_code.specs.declared.code.Plan.TheVariants.{Insert, InsertQuery, Update, Delete, UpdateAt, DeleteAt}
use Rattle.psm_code.specs.declared.code.RawCode.{RawCode}
use Rattle.psm_code.specs.declared.code.RawRoutine.{RawRoutine}
use Rattle.psm_code.specs.State.{with_cursor, with_rows}
use Rattle.psm_code.specs.Steps.{Act, got, raises, change, of_state, pops, present, read, table_now, ◌>>=◌, ◌>>◌}
use Rattle.psm_code.specs.Querying.{answer_of, cursor_now, declared_at, query_at, wrong_state}

-- CHECKs see no variables
abbrev pub plain : Evaluator (List Line)
plain = over []

abbrev pub schema_of : (List (List Datum) → Bool) → CodeTable → Schema (List Line)
schema_of keyed t = record { def = t.definition; checks = t.checks; keyed = keyed }

-- among the tables of now
abbrev pub schema_at : RawCode → ℕ → Act (Schema (List Line))
schema_at code table = do
  tables ← read (λ m. m.tables)
  present (slice_get (map (schema_of (are_keyed_with code.keys (rows_in tables) table)) code.tables) table)

-- a condition of the table bears its name
abbrev pub unless_failed : {A : Type 0} → TableDef → Result A Failure → Act A
unless_failed def (Ok a) = got a
unless_failed def (Err (Raised s)) = raises (of_state s)
unless_failed def (Err (OfTable s)) = raises (alone (record (entry_of s) { table = name_text def.name }))

-- the table has these rows now, and the statement was about n
abbrev pub leaves : ℕ → Contents → List (List Datum) → ℕ → Act (Unit {0})
leaves table c rows count = change (with_rows table (record c { rows = rows }) count)

-- a statement about no row
abbrev pub some_row : ℕ → Act (Unit {0})
some_row zero = raises (of_state (codes "02000"))
some_row (suc n) = got tt

-- ---- INSERT

-- n rows of n values each
abbrev pub in_rows : ℕ → ℕ → List Datum → List (List Datum)
in_rows zero width ds = []
in_rows (suc n) width ds = take width ds ∷ in_rows n width (drop width ds)

abbrev pub put_in : RawCode → ℕ → List ℕ → List (List Datum) → Act (Unit {0})
put_in code table columns rows = do
  s ← schema_at code table
  t ← table_now table
  c ← unless_failed s.def (inserted plain s (map (new_row s.def columns) rows) t.rows)
  leaves table t c.rows c.count

-- a query has its whole answer before a row is stored, and has to have a row
abbrev pub some_rows : List (List Datum) → Act (List (List Datum))
some_rows [] = raises (of_state (codes "02000"))
some_rows (row ∷ rows) = got (row ∷ rows)

-- ---- UPDATE and DELETE

abbrev pub set_item : set_code.SetItem → SetItem (List Line)
set_item s = record { column = s.column; source = s.source }

abbrev pub update_rows : RawCode → ℕ → List set_code.SetItem → Option (List Line) → Act (Unit {0})
update_rows code table sets test = do
  s ← schema_at code table
  t ← table_now table
  vars ← read (λ m. m.running.variables)
  c ← unless_failed s.def (updated (over vars) plain s (map set_item sets) test t.rows)
  leaves table t c.rows c.count
  some_row c.count

abbrev pub delete_rows : RawCode → ℕ → Option (List Line) → Act (Unit {0})
delete_rows code table test = do
  s ← schema_at code table
  t ← table_now table
  vars ← read (λ m. m.running.variables)
  c ← unless_failed s.def (deleted (over vars) plain s test t.rows)
  leaves table t c.rows c.count
  some_row c.count

-- ---- positioned statements

-- the row on which a cursor stands
abbrev pub standing_on : CodeCursor → Option (List Datum) → Act (List Datum)
standing_on x None = wrong_state x
standing_on x (Some row) = got row

abbrev pub row_of_cursor : CodeCursor → Contents → Cursor → Act (List Datum)
row_of_cursor x t Closed = wrong_state x
row_of_cursor x t (Insensitive rows) = wrong_state x
row_of_cursor x t (Plain p vars) = standing_on x (current t.def.key t.rows p)

-- a cursor whose row is gone stands on none
abbrev pub left_by : Cursor → Cursor
left_by Closed = Closed
left_by (Insensitive rows) = Insensitive rows
left_by (Plain p vars) = Plain (without_row p) vars

abbrev pub leave_row : Bool → ℕ → Cursor → Act (Unit {0})
leave_row true number c = change (with_cursor number (left_by c))
leave_row false number c = got tt

-- the cursor's state is tested before anything is evaluated
abbrev pub update_at : RawCode → RawRoutine → ℕ → List set_code.SetItem → Act (Unit {0})
update_at code r number sets = do
  x ← declared_at r number
  query ← query_at r x.query
  s ← schema_at code query.table
  t ← table_now query.table
  c ← cursor_now number
  row ← row_of_cursor x t c
  vars ← read (λ m. m.running.variables)
  moved ← unless_failed s.def (updated_at (over vars) plain s (map set_item sets) row t.rows)
  leaves query.table t moved.rows 1
  leave_row moved.moved number c

abbrev pub delete_at : RawCode → RawRoutine → ℕ → Act (Unit {0})
delete_at code r number = do
  x ← declared_at r number
  query ← query_at r x.query
  s ← schema_at code query.table
  t ← table_now query.table
  c ← cursor_now number
  row ← row_of_cursor x t c
  rows ← unless_failed s.def (deleted_at plain s row t.rows)
  leaves query.table t rows 1
  leave_row true number c

-- ---- plans

abbrev pub done : RawCode → RawRoutine → Plan → Act (Unit {0})
done code r (Insert table columns rows) = do
  ds ← pops (rows * length columns) []
  put_in code table columns (in_rows rows (length columns) ds)
done code r (InsertQuery table columns n) = do
  query ← query_at r n
  a ← answer_of query
  new ← some_rows a.rows
  put_in code table columns new
done code r (Update table sets test) = update_rows code table sets test
done code r (Delete table test) = delete_rows code table test
done code r (UpdateAt cursor sets) = update_at code r cursor sets
done code r (DeleteAt cursor) = delete_at code r cursor

abbrev pub plan : RawCode → RawRoutine → ℕ → Act (Unit {0})
plan code r n = do
  p ← present (slice_get r.plans n)
  done code r p
