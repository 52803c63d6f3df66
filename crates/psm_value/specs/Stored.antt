-- Store assignment (ISO/IEC 9075:1992, 9.2).
use Rattle.std.specs.Prelude.{ℕ, ℤ, pos, negsuc, ◌^◌, Bool, true, false, ◌&&◌, List, length, codes, nat_eq, nat_le, nat_lt, int_le, unsigned_abs, Result, Ok, Err, if◌then◌else◌}
use Rattle.psm_num.specs.Num as num
use Rattle.psm_num.specs.Arithmetic.{at_scale}
use Rattle.psm_text.specs.Storing as text
use Rattle.psm_sqlstate.specs.declared.state.SqlState.{SqlState}
use Rattle.psm_value.specs.declared.datum.Datum.{Datum}
use Rattle.psm_value.specs.declared.datum.Datum.TheVariants.{Null, Num, Text}
use Rattle.psm_value.specs.declared.sqltype.SqlType.{SqlType}
use Rattle.psm_value.specs.declared.sqltype.SqlType.TheVariants.{SmallInt, Integer, Numeric, Char, VarChar}
use Rattle.psm_value.specs.TextFaults.{as_text}

-- how many digits after the point the type keeps
abbrev pub scale_of : SqlType → ℕ
scale_of SmallInt = 0
scale_of Integer = 0
scale_of (Numeric p s) = s
scale_of (Char n) = 0
scale_of (VarChar n) = 0

-- whether a coefficient at that scale is in the type's range
abbrev pub is_in_range : SqlType → ℤ → Bool
is_in_range SmallInt c = int_le (negsuc 32767) c && int_le c (pos 32767)
is_in_range Integer c = int_le (negsuc 2147483647) c && int_le c (pos 2147483647)
is_in_range (Numeric p s) c = nat_lt (unsigned_abs c) (10 ^ p)
is_in_range (Char n) c = false
is_in_range (VarChar n) c = false

-- a number is cut toward zero to the type's scale, and has to be in the type's range then
abbrev pub stored_number : SqlType → num.Num → Result Datum SqlState
stored_number to n = let cut = at_scale n (scale_of to) in
    if is_in_range to cut.coef then Ok (Num cut) else Err (codes "22003")

-- a text may lose blanks alone, and CHAR is filled with blanks; a type of numbers holds no text
abbrev pub stored_text : SqlType → List ℕ → Result Datum SqlState
stored_text (Char n) t = as_text (text.stored n true t)
stored_text (VarChar n) t = as_text (text.stored n false t)
stored_text SmallInt t = Err (codes "22001")
stored_text Integer t = Err (codes "22001")
stored_text (Numeric p s) t = Err (codes "22001")

-- the value that is stored, or the SQLSTATE of the condition that it can't be
abbrev pub stored : SqlType → Datum → Result Datum SqlState
stored to Null = Ok Null
stored to (Num n) = stored_number to n
stored to (Text t) = stored_text to t

-- whether texts of n characters are as the type stores them; a type of numbers holds no text
abbrev pub has_length : SqlType → ℕ → Bool
has_length (Char n) count = nat_eq count n
has_length (VarChar n) count = nat_le count n
has_length SmallInt count = false
has_length Integer count = false
has_length (Numeric p s) count = false

-- whether a value is as the type stores it: null, a number of exactly the type's scale and in its range, or a text of
-- exactly n characters in CHAR(n) and of at most n in VARCHAR(n)
abbrev pub is_stored : SqlType → Datum → Bool
is_stored to Null = true
is_stored to (Num n) = nat_eq n.scale (scale_of to) && is_in_range to n.coef
is_stored to (Text t) = has_length to (length t)
