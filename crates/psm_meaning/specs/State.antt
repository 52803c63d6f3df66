-- What a run changes, and where a statement stands in it (ISO/IEC 9075-4:1996).
use Rattle.std.specs.Prelude.{ℕ, List, ◌∷◌, ◌++◌, slice_set}
use Rattle.psm_value.specs.declared.datum.Datum.{Datum}
use Rattle.psm_cond.specs.Area.{Diagnostics, clear}
use Rattle.psm_cond.specs.Condition.{Entries}
use Rattle.psm_table.specs.Cursors.{Cursor}
use Rattle.psm_table.specs.Table.{Contents}
use Rattle.psm_resolved.specs.declared.file.ResolvedRoutine.{ResolvedRoutine}
use Rattle.psm_resolved.specs.declared.statement.ResolvedCursor.{ResolvedCursor}
use Rattle.psm_resolved.specs.declared.statement.ResolvedHandler.{ResolvedHandler}

-- ---- the state

-- of the session: the tables, the diagnostics area, the turns that are left, and how many routines run; of the routine that
-- runs: its variables by slot and its cursors by number
pub record State : Type 0 where
  pub tables : List Contents
  pub area : Diagnostics
  pub turns : ℕ
  pub depth : ℕ
  pub variables : List Datum
  pub cursors : List Cursor

-- the area becomes success without rows
abbrev pub cleared : State → State
cleared st = record st { area = clear }

-- the area takes the entries of a condition; its number of rows stays
abbrev pub holding : Entries → State → State
holding c st = record st { area = record st.area { entries = c } }

-- the area is another one
abbrev pub put_back : Diagnostics → State → State
put_back area st = record st { area = area }

abbrev pub with_variable : ℕ → Datum → State → State
with_variable slot d st = record st { variables = slice_set st.variables slot d }

abbrev pub with_cursor : ℕ → Cursor → State → State
with_cursor number c st = record st { cursors = slice_set st.cursors number c }

abbrev pub with_tables : List Contents → State → State
with_tables tables st = record st { tables = tables }

-- the rows of a table after a statement about n of them
abbrev pub with_rows : ℕ → Contents → ℕ → State → State
with_rows table c count st = record st { tables = slice_set st.tables table c; area = record st.area { rows = count } }

-- the state where a routine has ended: the variables and cursors of the one that called it stand again
abbrev pub returned_to : State → State → State
returned_to caller st = record st { depth = caller.depth; variables = caller.variables; cursors = caller.cursors }

-- ---- places

-- the handlers that a block declares, which are in scope in its statement list; the block is known by its level. The cursors are
-- those that its handlers' actions see
pub record Scope : Type 0 where
  pub level : ℕ
  pub handlers : List ResolvedHandler
  pub cursors : List ResolvedCursor

-- where a statement stands: its routine, the cursors that it sees, the handlers in scope, innermost first, and the areas that
-- activated the actions which are running, innermost first
pub record EvalContext : Type 0 where
  pub routine : ResolvedRoutine
  pub cursors : List ResolvedCursor
  pub scopes : List Scope
  pub acting : List Diagnostics

-- the same place with more cursors
abbrev pub seeing : List ResolvedCursor → EvalContext → EvalContext
seeing cursors eval_context = record eval_context { cursors = cursors ++ eval_context.cursors }

-- the place of a block's statement list
abbrev pub in_scope : ℕ → List ResolvedHandler → List ResolvedCursor → EvalContext → EvalContext
in_scope level handlers cursors eval_context = record eval_context {
  cursors = cursors ++ eval_context.cursors;
  scopes = record { level = level; handlers = handlers; cursors = cursors ++ eval_context.cursors } ∷ eval_context.scopes;
}
