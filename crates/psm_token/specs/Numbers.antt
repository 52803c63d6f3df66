-- Numeric literals without a sign at the front of some characters (ISO/IEC 9075:1992, 5.3).
use Rattle.std.specs.Prelude.{ℕ, Bool, ◌+◌, List, [], ◌∷◌, drop, nat_eq, None, if◌then◌else◌}
use Rattle.std.specs.Char.{is_ascii_digit}
use Rattle.std.specs.List.{prefix_len, take_while}
use Rattle.psm_num.specs.Literal.{Literal}
use Rattle.psm_token.specs.Characters.{begins}

-- the digits at the front, and what stands after them
abbrev pub digits_at : List ℕ → List ℕ
digits_at cs = take_while is_ascii_digit cs

abbrev pub after_digits : List ℕ → List ℕ
after_digits cs = drop (prefix_len is_ascii_digit cs) cs

-- a full stop
abbrev pub is_point : ℕ → Bool
is_point c = nat_eq c 46

-- the digits after a point at the front
abbrev pub fraction_at : List ℕ → List ℕ
fraction_at [] = []
fraction_at (c ∷ cs) = if is_point c then digits_at cs else []

-- the longest literal at the front: digits, a point, digits
abbrev pub literal_at : List ℕ → Literal
literal_at cs = record {
  sign = None;
  whole = digits_at cs;
  fraction = fraction_at (after_digits cs);
  pointed = begins is_point (after_digits cs);
}

-- how many characters a point at the front and the digits after it are
abbrev pub fraction_len : List ℕ → ℕ
fraction_len [] = 0
fraction_len (c ∷ cs) = if is_point c then 1 + prefix_len is_ascii_digit cs else 0

-- how many characters the longest literal at the front has
abbrev pub literal_len : List ℕ → ℕ
literal_len cs = prefix_len is_ascii_digit cs + fraction_len (after_digits cs)
