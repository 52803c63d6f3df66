-- The row on which a cursor stands (ISO/IEC 9075:1992, 13.6 and 13.9).
use Rattle.std.specs.Prelude.{List, Option, None, if◌then◌else◌}
use Rattle.psm_value.specs.declared.datum.Datum.{Datum}
use Rattle.psm_table.specs.Cursors.{Cursor, Closed, Plain, Insensitive, Position, current, without_row}
use Rattle.psm_table.specs.Table.{Contents}

-- the key of the row on which a plain cursor stands, as long as the row is there
abbrev pub key_on : Position → Option (List Datum)
key_on p = if p.is_on_row then p.bound else None

abbrev pub current_key : Cursor → Option (List Datum)
current_key Closed = None
current_key (Plain p vars) = key_on p
current_key (Insensitive rows) = None

-- the row itself, if the table has it
abbrev pub current_row : Contents → Cursor → Option (List Datum)
current_row t Closed = None
current_row t (Plain p vars) = current t.def.key t.rows p
current_row t (Insensitive rows) = None

-- a cursor whose row is gone stands on none
abbrev pub off_row : Cursor → Cursor
off_row Closed = Closed
off_row (Plain p vars) = Plain (without_row p) vars
off_row (Insensitive rows) = Insensitive rows
