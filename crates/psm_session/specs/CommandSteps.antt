-- What the commands of a script do over code: the piece of text of each, and the tables and turns that it leaves (ISO/IEC 9075-4:1996,
-- call statement, and ISO/IEC 9075:1992, 13.8, 14.3 and 14.4).
use Rattle.std.specs.Prelude.{◌≡◌, ℕ, suc, Bool, List, [], ◌∷◌, ◌++◌, codes, encode_utf8_all, map, slice_get, slice_set, Option, Some, None, Result, Ok, Err}
use Rattle.psm_value.specs.declared.datum.Datum.{Datum}
use Rattle.psm_value.specs.Printed.{printed}
use Rattle.psm_cond.specs.Condition.{Entries, alone}
use Rattle.psm_cond.specs.Entry.{entry_of, name_text}
use Rattle.psm_exprcode.specs.declared.query.Query.{Query}
use Rattle.psm_sqlstate.specs.declared.state.SqlState.{SqlState}
use Rattle.psm_table.specs.Changing.{Changed, Failure, Raised as RaisedBy, OfTable, inserted}
use Rattle.psm_table.specs.Queries.{Answer, answer}
use Rattle.psm_table.specs.Keyed.{are_keyed_with, rows_in}
use Rattle.psm_table.specs.Table.{Contents}
use Rattle.psm_tablecode.specs.Codes.{over, query_of}
use Rattle.psm_tablecode.specs.NewRows.{new_row}
use Rattle.psm_code.specs.declared.code.CodeTable.{CodeTable}
use Rattle.psm_code.specs.declared.code.Parameter.{Parameter}
use Rattle.psm_code.specs.declared.code.RawCode.{RawCode}
use Rattle.psm_code.specs.declared.code.RawRoutine.{RawRoutine}
use Rattle.psm_code.specs.Parts.{giving, routine_at}
use Rattle.psm_code.specs.Plans.{plain, schema_of}
use Rattle.psm_code.specs.Run.{Ran}
use Rattle.psm_code.specs.State.{End, Ended, Raised, NoTurns, Stuck, Machine}
use Rattle.psm_meaning.specs.Acts as stops
use Rattle.psm_meaning.specs.Acts.{of_state}
use Rattle.psm_meaning.specs.Lines.{condition_lines, first_line, line, naming, ok_line, row_lines, turns_used_line}
use Rattle.psm_meaning.specs.Session.{CommandResult, Standing, Stopped, Went, end_of_rows}
use Rattle.psm_session.specs.declared.command.ScriptCommand.{ScriptCommand}
use Rattle.psm_session.specs.declared.command.ScriptCommand.TheVariants as commands

-- ---- CALL

-- a line for each OUT and INOUT parameter, with the value that is left for it
abbrev pub given_lines : List Parameter → List Datum → List ℕ
given_lines [] ds = []
given_lines (p ∷ ps) [] = []
given_lines (p ∷ ps) (d ∷ ds) = line (encode_utf8_all p.name ++ codes " = " ++ printed d) ++ given_lines ps ds

-- the tables and turns as a run left them
abbrev pub after_run : Standing → Machine → Standing
after_run s m = record s { tables = m.tables; turns = m.turns }

-- as a run of the procedure ended
abbrev pub called : List ℕ → Standing → RawRoutine → End → Machine → CommandResult
called first s r (Ended ds) m = Went (first ++ given_lines (giving r.parameters) ds ++ ok_line) (after_run s m)
called first s r (Raised c) m = Went (first ++ condition_lines c) (after_run s m)
called first s r NoTurns m = Stopped stops.NoTurns ((first ++ turns_used_line) ∷ [])
called first s r Stuck m = Stopped stops.Stuck []

-- ---- INSERT

abbrev pub with_tables : List Contents → Standing → Standing
with_tables tables s = record s { tables = tables }

-- a condition of the table bears its name
abbrev pub condition_of : CodeTable → Failure → Entries
condition_of t (RaisedBy s) = of_state s
condition_of t (OfTable s) = alone (record (entry_of s) { table = name_text t.definition.name })

abbrev pub put_in : List ℕ → Standing → ℕ → CodeTable → Contents → Result Changed Failure → CommandResult
put_in first s table t c (Ok change) = Went (first ++ ok_line) (with_tables (slice_set s.tables table (record c { rows = change.rows })) s)
put_in first s table t c (Err f) = Went (first ++ condition_lines (condition_of t f)) s

-- ---- SELECT

abbrev pub rows_shown : Bool → List (List Datum) → List ℕ
rows_shown skipped [] = condition_lines (of_state (codes "02000"))
rows_shown skipped (r ∷ rows) = row_lines (r ∷ rows) ++ end_of_rows skipped

abbrev pub selected : List ℕ → Standing → Result Answer SqlState → CommandResult
selected first s (Ok a) = Went (first ++ rows_shown a.skipped a.rows) s
selected first s (Err state) = Went (first ++ condition_lines (of_state state)) s

-- ---- commands

abbrev pub name_of_routine : Option RawRoutine → List ℕ
name_of_routine None = []
name_of_routine (Some r) = r.name

abbrev pub name_of_table : Option CodeTable → List ℕ
name_of_table None = []
name_of_table (Some t) = t.definition.name

abbrev pub command_name : RawCode → ScriptCommand → List ℕ
command_name code (commands.Call n values) = naming (codes "CALL ") (name_of_routine (routine_at code n))
command_name code (commands.Insert table columns rows) = naming (codes "INSERT ") (name_of_table (slice_get code.tables table))
command_name code (commands.Select query) = codes "SELECT"
command_name code commands.Commit = codes "COMMIT"
command_name code commands.Rollback = codes "ROLLBACK"

-- what a command ends in, after its first line; a run of a procedure has one end
pub data Executes (code : RawCode) (first : List ℕ) (s : Standing) : ScriptCommand → CommandResult → Type 0 where
  call : {n : ℕ} {values : List Datum} {r : RawRoutine} {end : End} {last : Machine} → routine_at code n ≡ Some r → Ran code n values s.tables s.turns end last
      → Executes code first s (commands.Call n values) (called first s r end last)
  insert : {table : ℕ} {columns : List ℕ} {rows : List (List Datum)} {t : CodeTable} {c : Contents} → slice_get code.tables table ≡ Some t → slice_get s.tables table ≡ Some c
      → Executes code first s (commands.Insert table columns rows) (put_in first s table t c (inserted plain (schema_of (are_keyed_with code.keys (rows_in s.tables) table) t) (map (new_row t.definition columns) rows) c.rows))
  select : {query : Query} {c : Contents} → slice_get s.tables query.table ≡ Some c → Executes code first s (commands.Select query) (selected first s (answer (over []) (query_of query) c.rows))
  commit : Executes code first s commands.Commit (Went (first ++ ok_line) (record s { committed = s.tables }))
  rollback : Executes code first s commands.Rollback (Went (first ++ ok_line) (record s { tables = s.committed }))

-- the same of the command with that number
abbrev pub CommandExecutes : RawCode → ℕ → Standing → ScriptCommand → CommandResult → Type 0
CommandExecutes code k s c r = Executes code (first_line k (command_name code c)) s c r

-- ---- commands one after another, from the one with that number on, none of which stops: their pieces, and what they leave

pub data Runs (code : RawCode) : ℕ → Standing → List ScriptCommand → List (List ℕ) → Standing → Type 0 where
  none : {k : ℕ} {s : Standing} → Runs code k s [] [] s
  next : {k : ℕ} {s t u : Standing} {c : ScriptCommand} {cs : List ScriptCommand} {piece : List ℕ} {pieces : List (List ℕ)} → CommandExecutes code k s c (Went piece t) → Runs code (suc k) t cs pieces u
      → Runs code k s (c ∷ cs) (piece ∷ pieces) u
