-- What a module and a script mean together: the pieces of text that the commands print, in order, and the tables that they leave.
use Rattle.std.specs.Prelude.{ℕ, suc, Bool, true, false, List, [], ◌∷◌, ◌++◌, codes, map, slice_get, Option, Some, None}
use Rattle.psm_value.specs.declared.datum.Datum.{Datum}
use Rattle.psm_cond.specs.Area.{clear}
use Rattle.psm_table.specs.Table.{Contents, empty_table}
use Rattle.psm_resolved.specs.declared.expr.ResolvedQuery.{ResolvedQuery}
use Rattle.psm_resolved.specs.declared.file.ResolvedFile.{ResolvedFile}
use Rattle.psm_resolved.specs.declared.file.ResolvedRoutine.{ResolvedRoutine}
use Rattle.psm_resolved.specs.declared.file.ResolvedTable.{ResolvedTable}
use Rattle.psm_meaning.specs.State.{State}
use Rattle.psm_meaning.specs.Acts.{Stop, NoTurns, OutOfFuel, Stuck, Given, Got, Raises, Ends, Meaning, Act, got, raises, ends, of_state, present, ◌>>=◌, ◌>>◌}
use Rattle.psm_meaning.specs.Calls.{activated, procedure_at}
use Rattle.psm_meaning.specs.Data.{put_in}
use Rattle.psm_meaning.specs.Lines.{condition_lines, first_line, naming, ok_line, row_lines, turns_used_line, value_lines}
use Rattle.psm_meaning.specs.Meaning.{meaning}
use Rattle.psm_meaning.specs.Rows.{answer_of}

-- ---- scripts

-- a procedure with the values for its IN and INOUT parameters in order; a table with columns, by their places, and rows of values
-- for them; a query; COMMIT and ROLLBACK
pub data Command : Type 0 where
  Call : ℕ → List Datum → Command
  Insert : ℕ → List ℕ → List (List Datum) → Command
  Select : ResolvedQuery → Command
  Commit Rollback : Command

-- ---- what is kept from command to command: the tables and the turns, and the tables as the last COMMIT left them

pub record Standing : Type 0 where
  pub tables : List Contents
  pub turns : ℕ
  pub committed : List Contents

-- each command begins with success in the area, and no routine runs
abbrev pub at_command : Standing → State
at_command s = record { tables = s.tables; area = clear; turns = s.turns; depth = 0; variables = []; cursors = [] }

-- ---- commands: the lines after the first one

-- a procedure that ended well prints its OUT and INOUT parameters
abbrev pub call_lines : ResolvedRoutine → Option Datum → List Datum → Act (List ℕ)
call_lines r None vars = got (value_lines r.parameters vars ++ ok_line)
call_lines r (Some d) vars = ends Stuck

abbrev pub called : ResolvedFile → ℕ → List Datum → Act (List ℕ)
called file procedure args = do
  r ← present (procedure_at file procedure)
  e ← activated r args
  call_lines r e.returned e.variables

abbrev pub inserted : ResolvedFile → ℕ → List ℕ → List (List Datum) → Act (List ℕ)
inserted file table columns rows = do
  put_in file table columns rows
  got ok_line

-- nulls that a set function skipped are a warning after the rows
abbrev pub end_of_rows : Bool → List ℕ
end_of_rows true = condition_lines (of_state (codes "01003"))
end_of_rows false = ok_line

abbrev pub answer_lines : Bool → List (List Datum) → Act (List ℕ)
answer_lines skipped [] = raises (of_state (codes "02000"))
answer_lines skipped (r ∷ rows) = got (row_lines (r ∷ rows) ++ end_of_rows skipped)

abbrev pub selected : ResolvedQuery → Act (List ℕ)
selected query = do
  a ← answer_of query
  answer_lines a.skipped a.rows

-- ---- pieces

abbrev pub procedure_name : Option ResolvedRoutine → List ℕ
procedure_name None = []
procedure_name (Some r) = r.name

abbrev pub table_name : Option ResolvedTable → List ℕ
table_name None = []
table_name (Some t) = t.definition.name

abbrev pub command_name : ResolvedFile → Command → List ℕ
command_name file (Call procedure args) = naming (codes "CALL ") (procedure_name (procedure_at file procedure))
command_name file (Insert table columns rows) = naming (codes "INSERT ") (table_name (slice_get file.tables table))
command_name file (Select query) = codes "SELECT"
command_name file Commit = codes "COMMIT"
command_name file Rollback = codes "ROLLBACK"

-- a command that ended, with its piece; or one that stopped, with a piece where the turns were used up
pub data CommandResult : Type 0 where
  Went : List ℕ → Standing → CommandResult
  Stopped : Stop → List (List ℕ) → CommandResult

-- the tables and turns as an evaluation left them
abbrev pub standing_after : Standing → State → Standing
standing_after s st = record s { tables = st.tables; turns = st.turns }

abbrev pub stopped_at : Stop → List ℕ → CommandResult
stopped_at NoTurns first = Stopped NoTurns ((first ++ turns_used_line) ∷ [])
stopped_at OutOfFuel first = Stopped OutOfFuel []
stopped_at Stuck first = Stopped Stuck []

abbrev pub ended : List ℕ → Standing → Given (List ℕ) → State → CommandResult
ended first s (Got lines) st = Went (first ++ lines) (standing_after s st)
ended first s (Raises c) st = Went (first ++ condition_lines c) (standing_after s st)
ended first s (Ends stop) st = stopped_at stop first

abbrev pub run : List ℕ → Standing → Act (List ℕ) → Meaning → CommandResult
run first s act m = let r = act m (at_command s) in ended first s r.given r.state

-- COMMIT keeps the tables as they are, and ROLLBACK puts them back as the last COMMIT left them
abbrev pub command_result : ResolvedFile → Meaning → List ℕ → Standing → Command → CommandResult
command_result file m first s (Call procedure args) = run first s (called file procedure args) m
command_result file m first s (Insert table columns rows) = run first s (inserted file table columns rows) m
command_result file m first s (Select query) = run first s (selected query) m
command_result file m first s Commit = Went (first ++ ok_line) (record s { committed = s.tables })
command_result file m first s Rollback = Went (first ++ ok_line) (record s { tables = s.committed })

-- ---- sessions

-- how a session ends: after its last command, or where a command stopped
pub data End : Type 0 where
  Done : End
  Cut : Stop → End

-- the pieces of the commands, and the tables and the turns that they leave
pub record Session : Type 0 where
  pub pieces : List (List ℕ)
  pub tables : List Contents
  pub turns : ℕ
  pub end : End

abbrev pub finished : Standing → Session
finished s = record { pieces = []; tables = s.tables; turns = s.turns; end = Done }

-- the turns that are left where a command stopped: none where it was for want of one
abbrev pub turns_at : Stop → ℕ → ℕ
turns_at NoTurns turns = 0
turns_at OutOfFuel turns = turns
turns_at Stuck turns = turns

-- a command that stops is the last, and the tables are as before it
abbrev pub going_on : Standing → CommandResult → (Standing → Session) → Session
going_on s (Went piece next) later = let rest = later next in record rest { pieces = piece ∷ rest.pieces }
going_on s (Stopped stop pieces) later = record { pieces = pieces; tables = s.tables; turns = turns_at stop s.turns; end = Cut stop }

-- the commands from the one with that number on
abbrev pub commands_from : ResolvedFile → Meaning → ℕ → List Command → Standing → Session
commands_from file m k [] s = finished s
commands_from file m k (c ∷ cs) s = going_on s (command_result file m (first_line k (command_name file c)) s c) (commands_from file m (suc k) cs)

-- the tables of a file, all empty
abbrev pub empty_tables : ResolvedFile → List Contents
empty_tables file = map (λ t. empty_table t.definition) file.tables

abbrev pub at_start : ResolvedFile → ℕ → Standing
at_start file turns = record { tables = empty_tables file; turns = turns; committed = empty_tables file }

-- the session with some fuel
abbrev pub session_to : ResolvedFile → ℕ → List Command → ℕ → Session
session_to file h commands turns = commands_from file (meaning file h) 1 commands (at_start file turns)
