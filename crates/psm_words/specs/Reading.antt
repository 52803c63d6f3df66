-- How the words of a listing are read: the longest word at the front of a text, and what follows it.
use Rattle.std.specs.Prelude.{ℕ, ◌+◌, ◌-◌, ◌*◌, Bool, true, false, ◌&&◌, not, List, [], ◌∷◌, ◌++◌, length, take, drop, codes, nat_eq, nat_lt, nat_le, Option, Some, None, is_some, if◌then◌else◌}
use Rattle.std.specs.Char.{is_ascii_digit}
use Rattle.std.specs.Int.{is_in_range}
use Rattle.std.specs.List.{list_all, starts_with}
use Rattle.std.specs.Result.{result_ok}
use lib.Utf8.{scalar}
use Rattle.psm_num.specs.Num.{Num}
use Rattle.psm_num.specs.Literal.{signed}
use Rattle.psm_text.specs.Text.{within_most}
use Rattle.psm_value.specs.declared.datum.Datum.{Datum}
use Rattle.psm_value.specs.declared.datum.Datum.TheVariants as data_of
use Rattle.psm_value.specs.declared.sqltype.SqlType.{SqlType}
use Rattle.psm_value.specs.declared.sqltype.SqlType.TheVariants as kinds
use Rattle.psm_exprcode.specs.declared.op.Letter.{Letter}
use Rattle.psm_exprcode.specs.declared.op.Letter.TheVariants as letters
use Rattle.psm_words.specs.declared.quoting.Within.{Within}
use Rattle.psm_words.specs.declared.quoting.Within.TheVariants as within
use Rattle.psm_words.specs.declared.quoting.Step.{Step}
use Rattle.psm_words.specs.declared.quoting.Step.TheVariants as step
use Rattle.psm_words.specs.Words.{is_plain, is_state_byte}

-- ---- numbers

-- whether a digit stands first
abbrev pub begins_with_digit : List ℕ → Bool
begins_with_digit [] = false
begins_with_digit (c ∷ s) = is_ascii_digit c

-- what a number becomes by a digit after it
abbrev pub longer : ℕ → ℕ → ℕ
longer n c = n * 10 + (c - 48)

-- the number that begins with the digits of n, which isn't read on from a zero, nor above most
abbrev pub number_on : ℕ → ℕ → List ℕ → Option (ℕ × List ℕ)
number_on most n [] = Some (n, [])
number_on most n (c ∷ s) = if is_ascii_digit c then (if nat_lt 0 n && nat_le (longer n c) most then number_on most (longer n c) s else None) else Some (n, c ∷ s)

-- a number of at most `most`
abbrev pub number_at : ℕ → List ℕ → Option (ℕ × List ℕ)
number_at most [] = None
number_at most (c ∷ s) = if is_ascii_digit c && nat_le (c - 48) most then number_on most (c - 48) s else None

-- ---- quoted texts

-- the value of a hexadecimal digit, of which letters are capital
abbrev pub hex_digit : ℕ → Option ℕ
hex_digit c = if is_ascii_digit c then Some (c - 48) else if is_in_range 65 70 c then Some (c - 55) else None

-- a code point with a digit more
abbrev pub more_digits : ℕ → Option ℕ → Step
more_digits n None = step.Wrong
more_digits n (Some d) = step.To (within.CodePoint (n * 16 + d))

-- the character that a code point is, if it doesn't stand for itself
abbrev pub escaped : ℕ → Step
escaped n = if scalar n && not (is_plain n) then step.Character n else step.Wrong

-- what a byte between quotes leads to: a code point has no leading zero, and is at most 10FFFF
abbrev pub step_of : Within → ℕ → Step
step_of within.Text c = if is_plain c then step.Character c else if nat_eq c 39 then step.Close else if nat_eq c 92 then step.To within.Backslash else step.Wrong
step_of within.Backslash c = if nat_eq c 123 then step.To within.Brace else step.Wrong
step_of within.Brace c = more_digits 0 (hex_digit c)
step_of (within.CodePoint n) c = if nat_eq c 125 then escaped n else if nat_lt 0 n && nat_lt n 69632 then more_digits n (hex_digit c) else step.Wrong

-- a text that is read after some characters, and what follows it
abbrev pub Reader : Type 0
Reader = List ℕ → Within → Option (List ℕ × List ℕ)

-- how reading goes on after a step
abbrev pub after_step : Step → List ℕ → List ℕ → Reader → Option (List ℕ × List ℕ)
after_step (step.To w) before s others = others before w
after_step (step.Character c) before s others = others (before ++ c ∷ []) within.Text
after_step step.Close before s others = Some (before, s)
after_step step.Wrong before s others = None

-- the text whose first characters are those before, up to its closing quote
abbrev pub text_on : List ℕ → Within → List ℕ → Option (List ℕ × List ℕ)
text_on before w [] = None
text_on before w (c ∷ s) = after_step (step_of w c) before s (λ characters next. text_on characters next s)

-- a text between single quotes
abbrev pub quoted_at : List ℕ → Option (List ℕ × List ℕ)
quoted_at [] = None
quoted_at (c ∷ s) = if nat_eq c 39 then text_on [] within.Text s else None

-- ---- several words

infixl 10 ◌>>=◌
-- what follows is read on from what was read
abbrev pub ◌>>=◌ : {A B : Type 0} → Option A → (A → Option B) → Option B
None >>= f = None
(Some x) >>= f = f x

-- what follows that word, if it stands first
abbrev pub after : List ℕ → List ℕ → Option (List ℕ)
after word s = if starts_with nat_eq s word then Some (drop (length word) s) else None

-- ---- data

-- the largest number of 18 digits
abbrev pub most_digits : ℕ
most_digits = 999999999999999999

-- a number without its sign: its digits, how many of them stand after the point, and what follows
abbrev pub Unsigned : Type 0
Unsigned = ℕ × ℕ × List ℕ

-- the number that begins with the digits of n, k of them after the point
abbrev pub decimals_on : ℕ → ℕ → List ℕ → Option Unsigned
decimals_on n k [] = Some (n, k, [])
decimals_on n k (c ∷ s) = if is_ascii_digit c then (if nat_lt k 18 && nat_le (longer n c) most_digits then decimals_on (longer n c) (k + 1) s else None) else Some (n, k, c ∷ s)

-- what follows the digits before the point
abbrev pub point_on : ℕ → List ℕ → Option Unsigned
point_on n [] = Some (n, 0, [])
point_on n (c ∷ s) = if nat_eq c 46 then (if begins_with_digit s then decimals_on n 0 s else None) else Some (n, 0, c ∷ s)

abbrev pub unsigned_at : List ℕ → Option Unsigned
unsigned_at s = number_at most_digits s >>= λ n. point_on n.0 n.1

-- a number with its sign; zero has no minus
abbrev pub signed_number : Bool → ℕ → ℕ → Option Num
signed_number minus n k = if minus && nat_eq n 0 then None else Some (record { coef = signed minus n; scale = k })

abbrev pub with_sign : Bool → Unsigned → Option (Num × List ℕ)
with_sign minus x = signed_number minus x.0 x.1 >>= λ n. Some (n, x.2)

-- a number as it is printed
abbrev pub decimal_at : List ℕ → Option (Num × List ℕ)
decimal_at [] = None
decimal_at (c ∷ s) = if nat_eq c 45 then (unsigned_at s >>= with_sign true) else (unsigned_at (c ∷ s) >>= with_sign false)

-- a text that isn't too long for a value
abbrev pub as_text : List ℕ × List ℕ → Option (Datum × List ℕ)
as_text x = result_ok (within_most x.0) >>= λ t. Some (data_of.Text t, x.1)

abbrev pub text_at : List ℕ → Option (Datum × List ℕ)
text_at s = quoted_at s >>= as_text

abbrev pub as_number : Num × List ℕ → Option (Datum × List ℕ)
as_number x = Some (data_of.Num x.0, x.1)

abbrev pub as_null : List ℕ → Option (Datum × List ℕ)
as_null s = Some (data_of.Null, s)

abbrev pub datum_at : List ℕ → Option (Datum × List ℕ)
datum_at [] = None
datum_at (c ∷ s) = if nat_eq c 78 then (after (codes "NULL") (c ∷ s) >>= as_null)
    else if nat_eq c 39 then text_at (c ∷ s)
    else (decimal_at (c ∷ s) >>= as_number)

abbrev pub begins_with_point : List ℕ → Bool
begins_with_point [] = false
begins_with_point (c ∷ s) = nat_eq c 46

-- whether a text can follow a value and isn't a part of its word
abbrev pub ends_datum : Datum → List ℕ → Bool
ends_datum data_of.Null s = true
ends_datum (data_of.Num n) s = not (begins_with_digit s) && not (nat_eq n.scale 0 && begins_with_point s)
ends_datum (data_of.Text t) s = true

-- ---- types

-- the type, after its word
abbrev pub plain_type : List ℕ → SqlType → List ℕ → Option (SqlType × List ℕ)
plain_type word kind s = after word s >>= λ rest. Some (kind, rest)

-- a number and the closing parenthesis
abbrev pub closed_number : ℕ → List ℕ → Option (ℕ × List ℕ)
closed_number most s = number_at most s >>= λ n. after (codes ")") n.1 >>= λ rest. Some (n.0, rest)

-- a length after a word
abbrev pub length_after : List ℕ → List ℕ → Option (ℕ × List ℕ)
length_after word s = after word s >>= closed_number 65535

-- digits, and decimals after a comma
abbrev pub digits_and_decimals : List ℕ → Option (SqlType × List ℕ)
digits_and_decimals s = number_at 255 s >>= λ p. after (codes ",") p.1 >>= λ t. closed_number 255 t >>= λ d. Some (kinds.Numeric p.0 d.0, d.1)

abbrev pub numeric_at : List ℕ → Option (SqlType × List ℕ)
numeric_at s = after (codes "NUMERIC(") s >>= digits_and_decimals

abbrev pub as_char : ℕ × List ℕ → Option (SqlType × List ℕ)
as_char x = Some (kinds.Char x.0, x.1)

abbrev pub as_varchar : ℕ × List ℕ → Option (SqlType × List ℕ)
as_varchar x = Some (kinds.VarChar x.0, x.1)

abbrev pub type_at : List ℕ → Option (SqlType × List ℕ)
type_at [] = None
type_at (c ∷ s) = if nat_eq c 83 then plain_type (codes "SMALLINT") kinds.SmallInt (c ∷ s)
    else if nat_eq c 73 then plain_type (codes "INTEGER") kinds.Integer (c ∷ s)
    else if nat_eq c 78 then numeric_at (c ∷ s)
    else if nat_eq c 67 then (length_after (codes "CHAR(") (c ∷ s) >>= as_char)
    else if nat_eq c 86 then (length_after (codes "VARCHAR(") (c ∷ s) >>= as_varchar)
    else None

-- ---- stacks

abbrev pub letter_of : ℕ → Option Letter
letter_of c = if nat_eq c 78 then Some letters.N else if nat_eq c 84 then Some letters.T else if nat_eq c 66 then Some letters.B else None

-- how reading goes on after a byte that is a letter or none
abbrev pub after_letter : Option Letter → List Letter → List ℕ → (List Letter → List Letter × List ℕ) → List Letter × List ℕ
after_letter None before s others = (before, s)
after_letter (Some l) before s others = others (before ++ l ∷ [])

-- the letters before, and those at the front
abbrev pub letters_on : List Letter → List ℕ → List Letter × List ℕ
letters_on before [] = (before, [])
letters_on before (c ∷ s) = after_letter (letter_of c) before (c ∷ s) (λ ls. letters_on ls s)

-- one letter at least
abbrev pub some_letters : List Letter → List ℕ → Option (List Letter × List ℕ)
some_letters [] s = None
some_letters (l ∷ ls) s = Some (l ∷ ls, s)

abbrev pub stack_at : List ℕ → Option (List Letter × List ℕ)
stack_at [] = None
stack_at (c ∷ s) = if nat_eq c 45 then Some ([], s) else some_letters (letters_on [] (c ∷ s)).0 (letters_on [] (c ∷ s)).1

abbrev pub begins_with_letter : List ℕ → Bool
begins_with_letter [] = false
begins_with_letter (c ∷ s) = is_some (letter_of c)

-- whether a text can follow a stack and isn't a part of its word
abbrev pub ends_stack : List Letter → List ℕ → Bool
ends_stack [] s = true
ends_stack (l ∷ ls) s = not (begins_with_letter s)

-- ---- states

abbrev pub state_at : List ℕ → Option (List ℕ × List ℕ)
state_at s = if nat_eq (length (take 5 s)) 5 && list_all is_state_byte (take 5 s) then Some (take 5 s, drop 5 s) else None
