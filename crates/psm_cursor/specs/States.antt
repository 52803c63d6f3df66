-- What the state of a cursor stands for.
use Rattle.psm_table.specs.Cursors.{Cursor, Closed, Plain, Insensitive}
use Rattle.psm_cursor.specs.declared.cursor.State.{State}
use Rattle.psm_cursor.specs.declared.cursor.State.TheVariants as state

abbrev pub cursor_of : State → Cursor
cursor_of state.Closed = Closed
cursor_of (state.Plain position vars) = Plain position vars.items
cursor_of (state.Insensitive rows) = Insensitive rows.items
