-- How the words of a listing are written, as lists of bytes, which are all ASCII.
use Rattle.std.specs.Prelude.{◌≡◌, ℕ, ◌^◌, ◌<◌, ◌≤◌, Bool, true, ◌&&◌, not, IsTrue, List, [], ◌∷◌, ◌++◌, map, length, codes, decimal, nat_eq, unsigned_abs, if◌then◌else◌}
use Rattle.std.specs.Fmt.{digits}
use Rattle.std.specs.Int.{is_in_range}
use Rattle.std.specs.List.{flat_map, list_all}
use Rattle.std.specs.Str.{all_scalars}
use Rattle.psm_num.specs.Printed.{printed}
use Rattle.psm_value.specs.declared.datum.Datum.{Datum}
use Rattle.psm_value.specs.declared.datum.Datum.TheVariants.{Null, Num, Text}
use Rattle.psm_value.specs.declared.sqltype.SqlType.{SqlType}
use Rattle.psm_value.specs.declared.sqltype.SqlType.TheVariants.{SmallInt, Integer, Numeric, Char, VarChar}
use Rattle.psm_exprcode.specs.declared.op.Letter.{Letter}
use Rattle.psm_exprcode.specs.declared.op.Letter.TheVariants as letters

-- its decimal digits
abbrev pub number : ℕ → List ℕ
number n = decimal n

-- a character that stands for itself between quotes: from blank to `~`, but neither `'` nor `\`
abbrev pub is_plain : ℕ → Bool
is_plain c = is_in_range 32 126 c && not (nat_eq c 39) && not (nat_eq c 92)

-- a character between quotes: itself, or `\{`, its code point in capital hexadecimal digits, and `}`
abbrev pub character : ℕ → List ℕ
character c = if is_plain c then c ∷ [] else 92 ∷ 123 ∷ digits 16 true c ++ 125 ∷ []

-- a text between single quotes
abbrev pub quoted : List ℕ → List ℕ
quoted t = 39 ∷ flat_map character t ++ 39 ∷ []

-- a printed value: `NULL`, a number as it is printed, or a quoted text
abbrev pub datum_word : Datum → List ℕ
datum_word Null = codes "NULL"
datum_word (Num n) = printed n
datum_word (Text t) = quoted t

-- a type with its digits and decimals, or its length
abbrev pub type_word : SqlType → List ℕ
type_word SmallInt = codes "SMALLINT"
type_word Integer = codes "INTEGER"
type_word (Numeric p s) = codes "NUMERIC(" ++ number p ++ codes "," ++ number s ++ codes ")"
type_word (Char n) = codes "CHAR(" ++ number n ++ codes ")"
type_word (VarChar n) = codes "VARCHAR(" ++ number n ++ codes ")"

abbrev pub letter_byte : Letter → ℕ
letter_byte letters.N = 78
letter_byte letters.T = 84
letter_byte letters.B = 66

-- the letters of a stack, the top last, or `-` for none
abbrev pub stack_word : List Letter → List ℕ
stack_word [] = codes "-"
stack_word (l ∷ ls) = map letter_byte (l ∷ ls)

-- a byte from `!` to `~`
abbrev pub is_state_byte : ℕ → Bool
is_state_byte c = is_in_range 33 126 c

-- five such bytes, as they are
abbrev pub state_word : List ℕ → List ℕ
state_word t = t

-- ---- what has a word

abbrev pub IsDatum : Datum → Type 0
IsDatum Null = Unit {0}
IsDatum (Num n) = (n.scale ≤ 18) × (unsigned_abs n.coef < 10 ^ 18)
IsDatum (Text t) = (length t ≤ 4000) × IsTrue (all_scalars t)

abbrev pub FitsType : SqlType → Type 0
FitsType SmallInt = Unit {0}
FitsType Integer = Unit {0}
FitsType (Numeric p s) = (p ≤ 255) × (s ≤ 255)
FitsType (Char n) = n ≤ 65535
FitsType (VarChar n) = n ≤ 65535

abbrev pub IsStateWord : List ℕ → Type 0
IsStateWord t = (length t ≡ 5) × IsTrue (list_all is_state_byte t)
