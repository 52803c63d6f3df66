-- INSERT, UPDATE and DELETE (ISO/IEC 9075:1992, 13.6 to 13.10).
use Rattle.std.specs.Prelude.{ℕ, zero, suc, Bool, true, false, List, [], ◌∷◌, codes, map, slice_get, Option, Some, None, Result, Ok, Err}
use Rattle.psm_value.specs.declared.datum.Datum.{Datum}
use Rattle.psm_cond.specs.Condition.{alone}
use Rattle.psm_cond.specs.Entry.{entry_of, name_text}
use Rattle.psm_table.specs.Changing.{Failure, Raised, OfTable, Schema, SetItem, deleted, deleted_at, inserted, updated, updated_at}
use Rattle.psm_table.specs.Cursors.{Cursor, Closed, Plain, Insensitive, current, without_row}
use Rattle.psm_table.specs.Evaluator.{Evaluator}
use Rattle.psm_table.specs.Keyed.{are_keyed_with, rows_in}
use Rattle.psm_table.specs.Table.{Contents}
use Rattle.psm_table.specs.declared.definition.TableDef.{TableDef}
use Rattle.psm_tablecode.specs.NewRows.{new_row}
use Rattle.psm_resolved.specs.declared.expr.ResolvedExpr.{ResolvedExpr}
use Rattle.psm_resolved.specs.declared.file.ResolvedFile.{ResolvedFile}
use Rattle.psm_resolved.specs.declared.file.ResolvedTable.{ResolvedTable}
use Rattle.psm_resolved.specs.declared.statement.ResolvedCursor.{ResolvedCursor}
use Rattle.psm_resolved.specs.declared.statement.ResolvedRows.{ResolvedRows}
use Rattle.psm_resolved.specs.declared.statement.ResolvedRows.TheVariants.{Values, Query}
use Rattle.psm_resolved.specs.declared.statement.ResolvedSet.{ResolvedSet}
use Rattle.psm_resolved.specs.declared.statement.ResolvedWhere.{ResolvedWhere}
use Rattle.psm_resolved.specs.declared.statement.ResolvedWhere.TheVariants.{All, Test, Current}
use Rattle.psm_meaning.specs.State.{EvalContext, cleared, with_cursor, with_rows}
use Rattle.psm_meaning.specs.Acts.{Act, got, raises, change, read, present, of_state, values, ◌>>=◌, ◌>>◌}
use Rattle.psm_meaning.specs.Cursors.{cursor_now, declared_at, wrong_state}
use Rattle.psm_meaning.specs.Rows.{answer_of, over, table_now}

-- ---- what a statement stands on

-- CHECKs see no variables
abbrev pub plain : Evaluator ResolvedExpr
plain = over []

abbrev pub schema_of : (List (List Datum) → Bool) → ResolvedTable → Schema ResolvedExpr
schema_of keyed t = record { def = t.definition; checks = t.checks; keyed = keyed }

-- among the tables of now
abbrev pub schema_at : ResolvedFile → ℕ → Act (Schema ResolvedExpr)
schema_at file table = do
  tables ← read (λ st. st.tables)
  present (slice_get (map (schema_of (are_keyed_with file.keys (rows_in tables) table)) file.tables) table)

-- a condition of the table bears its name
abbrev pub unless_failed : {A : Type 0} → TableDef → Result A Failure → Act A
unless_failed def (Ok a) = got a
unless_failed def (Err (Raised s)) = raises (of_state s)
unless_failed def (Err (OfTable s)) = raises (alone (record (entry_of s) { table = name_text def.name }))

-- the table has these rows now, and the statement was about n
abbrev pub leaves : ℕ → Contents → List (List Datum) → ℕ → Act (Unit {0})
leaves table c rows count = change (with_rows table (record c { rows = rows }) count)

-- a statement about no row
abbrev pub some_row : ℕ → Act (Unit {0})
some_row zero = raises (of_state (codes "02000"))
some_row (suc n) = got tt

-- ---- INSERT

-- the values of all expressions of all rows
abbrev pub all_values : List (List ResolvedExpr) → Act (List (List Datum))
all_values [] = got []
all_values (r ∷ rs) = do
  ds ← values r
  others ← all_values rs
  got (ds ∷ others)

-- a query has its whole answer before a row is stored, and has to have a row
abbrev pub some_rows : List (List Datum) → Act (List (List Datum))
some_rows [] = raises (of_state (codes "02000"))
some_rows (r ∷ rs) = got (r ∷ rs)

abbrev pub rows_given : ResolvedRows → Act (List (List Datum))
rows_given (Values rs) = all_values rs
rows_given (Query query) = do
  a ← answer_of query
  some_rows a.rows

-- rows of values for some columns are put into a table
abbrev pub put_in : ResolvedFile → ℕ → List ℕ → List (List Datum) → Act (Unit {0})
put_in file table columns rows = do
  s ← schema_at file table
  t ← table_now table
  c ← unless_failed s.def (inserted plain s (map (new_row s.def columns) rows) t.rows)
  leaves table t c.rows c.count

abbrev pub insert : ResolvedFile → ℕ → List ℕ → ResolvedRows → Act (Unit {0})
insert file table columns rows = do
  change cleared
  new ← rows_given rows
  put_in file table columns new

-- ---- UPDATE and DELETE of the rows that meet a test

abbrev pub set_item : ResolvedSet → SetItem ResolvedExpr
set_item s = record { column = s.column; source = s.source }

abbrev pub update_rows : ResolvedFile → ℕ → List ResolvedSet → Option ResolvedExpr → Act (Unit {0})
update_rows file table sets test = do
  s ← schema_at file table
  t ← table_now table
  vars ← read (λ st. st.variables)
  c ← unless_failed s.def (updated (over vars) plain s (map set_item sets) test t.rows)
  leaves table t c.rows c.count
  some_row c.count

abbrev pub delete_rows : ResolvedFile → ℕ → Option ResolvedExpr → Act (Unit {0})
delete_rows file table test = do
  s ← schema_at file table
  t ← table_now table
  vars ← read (λ st. st.variables)
  c ← unless_failed s.def (deleted (over vars) plain s test t.rows)
  leaves table t c.rows c.count
  some_row c.count

-- ---- positioned statements

-- the row on which a cursor stands
abbrev pub standing_on : ResolvedCursor → Option (List Datum) → Act (List Datum)
standing_on x None = wrong_state x
standing_on x (Some row) = got row

abbrev pub row_of_cursor : ResolvedCursor → Contents → Cursor → Act (List Datum)
row_of_cursor x t Closed = wrong_state x
row_of_cursor x t (Insensitive rows) = wrong_state x
row_of_cursor x t (Plain p vars) = standing_on x (current t.def.key t.rows p)

-- a cursor whose row is gone stands on none
abbrev pub left_by : Cursor → Cursor
left_by Closed = Closed
left_by (Insensitive rows) = Insensitive rows
left_by (Plain p vars) = Plain (without_row p) vars

abbrev pub leave_row : Bool → ResolvedCursor → Cursor → Act (Unit {0})
leave_row true x c = change (with_cursor x.number (left_by c))
leave_row false x c = got tt

-- the cursor's state is tested before anything is evaluated
abbrev pub update_at : ResolvedFile → EvalContext → ℕ → List ResolvedSet → ℕ → Act (Unit {0})
update_at file eval_context table sets cursor = do
  s ← schema_at file table
  t ← table_now table
  x ← declared_at eval_context cursor
  c ← cursor_now cursor
  row ← row_of_cursor x t c
  vars ← read (λ st. st.variables)
  m ← unless_failed s.def (updated_at (over vars) plain s (map set_item sets) row t.rows)
  leaves table t m.rows 1
  leave_row m.moved x c

abbrev pub delete_at : ResolvedFile → EvalContext → ℕ → ℕ → Act (Unit {0})
delete_at file eval_context table cursor = do
  s ← schema_at file table
  t ← table_now table
  x ← declared_at eval_context cursor
  c ← cursor_now cursor
  row ← row_of_cursor x t c
  rows ← unless_failed s.def (deleted_at plain s row t.rows)
  leaves table t rows 1
  leave_row true x c

-- ---- UPDATE and DELETE

abbrev pub update : ResolvedFile → EvalContext → ℕ → List ResolvedSet → ResolvedWhere → Act (Unit {0})
update file eval_context table sets All = do
  change cleared
  update_rows file table sets None
update file eval_context table sets (Test e) = do
  change cleared
  update_rows file table sets (Some e)
update file eval_context table sets (Current cursor) = do
  change cleared
  update_at file eval_context table sets cursor

abbrev pub delete : ResolvedFile → EvalContext → ℕ → ResolvedWhere → Act (Unit {0})
delete file eval_context table All = do
  change cleared
  delete_rows file table None
delete file eval_context table (Test e) = do
  change cleared
  delete_rows file table (Some e)
delete file eval_context table (Current cursor) = do
  change cleared
  delete_at file eval_context table cursor
