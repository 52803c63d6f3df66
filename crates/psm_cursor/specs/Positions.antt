-- Whether a plain cursor stands on a row.
use Rattle.std.specs.Prelude.{Bool, true, false}
use Rattle.psm_cursor.specs.declared.position.Standing.{Standing}
use Rattle.psm_cursor.specs.declared.position.Standing.TheVariants.{OnRow, OffRow, PastLast}

abbrev pub is_on_row : Standing → Bool
is_on_row OnRow = true
is_on_row OffRow = false
is_on_row PastLast = false

abbrev pub is_past_last : Standing → Bool
is_past_last OnRow = false
is_past_last OffRow = false
is_past_last PastLast = true
