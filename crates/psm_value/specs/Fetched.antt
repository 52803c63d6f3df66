-- Retrieval assignment (ISO/IEC 9075:1992, 9.1).
use Rattle.std.specs.Prelude.{ℕ, Bool, true, false, List, codes, Result, Ok, Err}
use Rattle.psm_text.specs.Storing as text
use Rattle.psm_sqlstate.specs.declared.state.SqlState.{SqlState}
use Rattle.psm_value.specs.declared.datum.Datum.{Datum}
use Rattle.psm_value.specs.declared.datum.Datum.TheVariants.{Null, Num, Text}
use Rattle.psm_value.specs.declared.sqltype.SqlType.{SqlType}
use Rattle.psm_value.specs.declared.sqltype.SqlType.TheVariants.{SmallInt, Integer, Numeric, Char, VarChar}
use Rattle.psm_value.specs.Stored.{stored_number}

-- a value that lost no character
abbrev pub unlost : Result Datum SqlState → Result (Datum × Bool) SqlState
unlost (Ok d) = Ok (d, false)
unlost (Err state) = Err state

-- a text that is cut to the type's length, and whether a character was lost; a type of numbers holds no text
abbrev pub fetched_text : SqlType → List ℕ → Result (Datum × Bool) SqlState
fetched_text (Char n) t = let cut = text.fetched n true t in Ok (Text cut.0, cut.1)
fetched_text (VarChar n) t = let cut = text.fetched n false t in Ok (Text cut.0, cut.1)
fetched_text SmallInt t = Err (codes "22001")
fetched_text Integer t = Err (codes "22001")
fetched_text (Numeric p s) t = Err (codes "22001")

-- the value that is fetched, and whether a character of it was lost; numbers are fetched as they are stored
abbrev pub fetched : SqlType → Datum → Result (Datum × Bool) SqlState
fetched to Null = Ok (Null, false)
fetched to (Num n) = unlost (stored_number to n)
fetched to (Text t) = fetched_text to t
