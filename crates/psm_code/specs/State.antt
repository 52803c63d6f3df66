-- What a run of code changes.
use Rattle.std.specs.Prelude.{ℕ, List, [], ◌∷◌, slice_set, Option, Some, None}
use Rattle.psm_sqlstate.specs.declared.state.SqlState.{SqlState}
use Rattle.psm_value.specs.declared.datum.Datum.{Datum}
use Rattle.psm_cond.specs.Area.{Diagnostics, clear}
use Rattle.psm_cond.specs.Condition.{Entries}
use Rattle.psm_exprcode.specs.declared.operand.Operand.{Operand}
use Rattle.psm_table.specs.Cursors.{Cursor, Closed}
use Rattle.psm_table.specs.Table.{Contents}

-- a block that has been entered, by its context, with the tables that it found where it is atomic; or the action of a handler, by
-- its number, with the line at which CONTINUE goes on and the area that activated it
pub data Frame : Type 0 where
  InBlock : ℕ → Option (List Contents) → Frame
  InAction : ℕ → Option ℕ → Diagnostics → Frame

-- the activation of a routine: its number, the line that comes next, the variables by slot, the cursors by number, the operands,
-- the last one first, and the frames, the innermost first
pub record Activation : Type 0 where
  pub routine : ℕ
  pub line : ℕ
  pub variables : List Datum
  pub cursors : List Cursor
  pub operands : List Operand
  pub frames : List Frame

-- of a run: the activation that runs, those that called it, the innermost first, the diagnostics area, the warning that is
-- pending, the turns that are left, and the tables
pub record Machine : Type 0 where
  pub running : Activation
  pub callers : List Activation
  pub area : Diagnostics
  pub pending : Option SqlState
  pub turns : ℕ
  pub tables : List Contents

-- how a run ends: with the values of the OUT and INOUT parameters; with an exception; where a turn is due and none is left; or,
-- which code that keeps its rules never ends in, where something isn't there that an instruction names
pub data End : Type 0 where
  Ended : List Datum → End
  Raised : Entries → End
  NoTurns Stuck : End

-- what one instruction leads to
pub data Stepped : Type 0 where
  More : Machine → Stepped
  Over : End → Machine → Stepped

-- ---- changes

abbrev pub with_running : (Activation → Activation) → Machine → Machine
with_running f m = record m { running = f m.running }

-- the area becomes success without rows, and no warning is pending
abbrev pub cleared : Machine → Machine
cleared m = record m { area = clear; pending = None }

-- the area takes the entries of a condition, its number of rows stays, and no warning is pending
abbrev pub holding : Entries → Machine → Machine
holding c m = record m { area = record m.area { entries = c }; pending = None }

-- the area is another one, and no warning is pending
abbrev pub put_back : Diagnostics → Machine → Machine
put_back area m = record m { area = area; pending = None }

abbrev pub with_variable : ℕ → Datum → Machine → Machine
with_variable slot d m = with_running (λ a. record a { variables = slice_set a.variables slot d }) m

abbrev pub with_cursor : ℕ → Cursor → Machine → Machine
with_cursor number c m = with_running (λ a. record a { cursors = slice_set a.cursors number c }) m

-- the rows of a table after a statement about n of them
abbrev pub with_rows : ℕ → Contents → ℕ → Machine → Machine
with_rows table c count m = record m { tables = slice_set m.tables table c; area = record m.area { rows = count } }

-- the first warning of a statement stays
abbrev pub first_warning : SqlState → Option SqlState → Option SqlState
first_warning s None = Some s
first_warning s (Some t) = Some t

abbrev pub warning : SqlState → Machine → Machine
warning s m = record m { pending = first_warning s m.pending }

abbrev pub at_line : ℕ → Machine → Machine
at_line n m = with_running (λ a. record a { line = n }) m

abbrev pub closed_cursors : List ℕ → List Cursor → List Cursor
closed_cursors [] cs = cs
closed_cursors (n ∷ ns) cs = closed_cursors ns (slice_set cs n Closed)
