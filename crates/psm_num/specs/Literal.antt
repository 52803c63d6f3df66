-- Numeric literals with an optional sign (ISO/IEC 9075:1992, 5.3), apart from how they are read.
use Rattle.std.specs.Prelude.{◌≡◌, ℕ, ℤ, pos, neg_ℤ, ◌+◌, ◌<◌, Bool, true, false, IsTrue, List, [], ◌∷◌, ◌++◌, length, nat_le, Option, Some, None, Result, Ok, Err, if◌then◌else◌}
use Rattle.std.specs.Char.{is_ascii_digit}
use Rattle.std.specs.List.{list_all}
use Rattle.std.specs.Str.Parse.{digits_value}
use Rattle.psm_num.specs.declared.fault.NumFault.{NumFault}
use Rattle.psm_num.specs.declared.fault.NumFault.TheVariants.{Range}
use Rattle.psm_num.specs.Num.{Num}

-- a plus or a minus
pub data Sign : Type 0 where
  Plus : Sign
  Minus : Sign

-- a sign or none, the digits before the point, those after it, and whether there is a point
pub record Literal : Type 0 where
  pub sign : Option Sign
  pub whole : List ℕ
  pub fraction : List ℕ
  pub pointed : Bool

-- how many digits are written, zeros at both ends among them
abbrev pub literal_digits : Literal → ℕ
literal_digits l = length l.whole + length l.fraction

-- digits, at least one, and none after a point that isn't there
pub record IsLiteral (l : Literal) : Type 0 where
  pub whole_digits : IsTrue (list_all is_ascii_digit l.whole)
  pub fraction_digits : IsTrue (list_all is_ascii_digit l.fraction)
  pub some_digit : 0 < literal_digits l
  pub no_fraction : l.pointed ≡ false → l.fraction ≡ []

-- how a sign or none is written
abbrev pub sign_text : Option Sign → List ℕ
sign_text None = []
sign_text (Some Plus) = 43 ∷ []
sign_text (Some Minus) = 45 ∷ []

-- how a point or none is written
abbrev pub point_text : Bool → List ℕ
point_text true = 46 ∷ []
point_text false = []

-- how it is written
abbrev pub literal_text : Literal → List ℕ
literal_text l = sign_text l.sign ++ l.whole ++ point_text l.pointed ++ l.fraction

-- only a minus makes a number negative
abbrev pub is_minus : Option Sign → Bool
is_minus None = false
is_minus (Some Plus) = false
is_minus (Some Minus) = true

-- a number with its sign
abbrev pub signed : Bool → ℕ → ℤ
signed negative n = if negative then neg_ℤ (pos n) else pos n

-- the number that all its digits spell, at the scale of those after the point
abbrev pub literal_value : Literal → Num
literal_value l = record { coef = signed (is_minus l.sign) (digits_value 10 (l.whole ++ l.fraction)); scale = length l.fraction }

-- a literal of a text
pub record Spells (text : List ℕ) (l : Literal) : Type 0 where
  pub form : IsLiteral l
  pub spelling : literal_text l ≡ text

-- a literal's value, or out of range where it has more than 18 digits
abbrev pub literal_number : Literal → Result Num NumFault
literal_number l = if nat_le (literal_digits l) 18 then Ok (literal_value l) else Err Range
