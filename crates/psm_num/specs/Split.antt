-- The parts of a text that may be a literal: its sign, and what stands before and after its first point.
use Rattle.std.specs.Prelude.{ℕ, Bool, ◌&&◌, ◌==◌, List, drop, slice_index, nat_lt, Option, Some, None, is_some, Result, Err, if◌then◌else◌}
use Rattle.std.specs.List.{list_all, list_any, before_first, after_first}
use Rattle.std.specs.Char.{is_ascii_digit}
use Rattle.psm_num.specs.declared.fault.NumFault.{NumFault}
use Rattle.psm_num.specs.declared.fault.NumFault.TheVariants.{NotNumber}
use Rattle.psm_num.specs.Num.{Num}
use Rattle.psm_num.specs.Literal.{Literal, Sign, Plus, Minus, literal_digits, literal_number}

-- the sign that stands first
abbrev pub sign_of : List ℕ → Option Sign
sign_of t = if slice_index t 0 == 43 then Some Plus else if slice_index t 0 == 45 then Some Minus else None

-- what stands after the sign
abbrev pub after_sign : List ℕ → List ℕ
after_sign t = if is_some (sign_of t) then drop 1 t else t

-- a full stop
abbrev pub is_point : ℕ → Bool
is_point c = c == 46

-- the only literal that a text can be
abbrev pub literal_of : List ℕ → Literal
literal_of t = let unsigned = after_sign t in record {
  sign = sign_of t;
  whole = before_first is_point unsigned;
  fraction = after_first is_point unsigned;
  pointed = list_any is_point unsigned;
}

-- whether the parts are digits, at least one
abbrev pub has_digits : Literal → Bool
has_digits l = list_all is_ascii_digit l.whole && list_all is_ascii_digit l.fraction && nat_lt 0 (literal_digits l)

-- the number of a text
abbrev pub number_of : List ℕ → Result Num NumFault
number_of t = if has_digits (literal_of t) then literal_number (literal_of t) else Err NotNumber
