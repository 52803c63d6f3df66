-- Parts of texts and texts of parts (ISO/IEC 9075:1992, 6.6 and 6.7).
use Rattle.std.specs.Prelude.{◌≡◌, ◌≢◌, ℕ, zero, suc, ◌-◌, ◌<◌, ℤ, pos, ◌+ℤ◌, int_lt, int_le, Bool, true, false, ◌&&◌, List, [], ◌∷◌, ◌++◌, length, map, reverse, drop, replicate, slice_get, nat_eq, Option, Some, None, IsTrue, IsFalse, Result, Ok, Err, if◌then◌else◌}
use Rattle.std.specs.Char.{to_ascii_uppercase, to_ascii_lowercase}
use Rattle.std.specs.List.{filter, enumerate_from, starts_with}
use Rattle.psm_text.specs.declared.fault.TextFault.{TextFault}
use Rattle.psm_text.specs.declared.fault.TextFault.TheVariants.{Substring}
use Rattle.psm_text.specs.declared.parts.Side.{Side}
use Rattle.psm_text.specs.declared.parts.Side.TheVariants.{Leading, Trailing, Both}
use Rattle.psm_text.specs.Order.{blank}
use Rattle.psm_text.specs.Text.{within_most}

-- the one text after the other
abbrev pub joined : List ℕ → List ℕ → Result (List ℕ) TextFault
joined a b = within_most (a ++ b)

-- whether a position lies before the end of the positions that are asked for; without a count these have no end
abbrev pub is_before_end : ℤ → Option ℤ → ℕ → Bool
is_before_end from None position = true
is_before_end from (Some count) position = int_lt (pos position) (from +ℤ count)

-- whether a position, counted from 1, is one that is asked for: from the position from on, and before the end
abbrev pub is_asked : ℤ → Option ℤ → ℕ → Bool
is_asked from count position = int_le from (pos position) && is_before_end from count position

-- the characters at the positions that are asked for
abbrev pub asked_part : ℤ → Option ℤ → List ℕ → List ℕ
asked_part from count t = map (λ c. c.1) (filter (λ c. is_asked from count c.0) (enumerate_from 1 t))

-- whether there is a count and it is negative
abbrev pub has_negative : Option ℤ → Bool
has_negative None = false
has_negative (Some count) = int_lt count (pos 0)

-- the substring, where the count isn't negative
abbrev pub substring_of : ℤ → Option ℤ → List ℕ → Result (List ℕ) TextFault
substring_of from count t = if has_negative count then Err Substring else Ok (asked_part from count t)

-- the text with a to z as capital letters; no other character changes
abbrev pub upper_of : List ℕ → List ℕ
upper_of t = map to_ascii_uppercase t

-- the text with A to Z as small letters; no other character changes
abbrev pub lower_of : List ℕ → List ℕ
lower_of t = map to_ascii_lowercase t

-- whether the part stands in the text at the position, counted from 1
abbrev pub stands_at : List ℕ → List ℕ → ℕ → Bool
stands_at part t position = starts_with nat_eq (drop (position - 1) t) part

-- the first position at which the part stands in the text, or 0 where there is none
pub record IsPosition (part t : List ℕ) (position : ℕ) : Type 0 where
  pub found : 0 < position → IsTrue (stands_at part t position)
  pub first : (other : ℕ) → 0 < other → other < position → IsFalse (stands_at part t other)
  pub none : position ≡ 0 → (other : ℕ) → 0 < other → IsFalse (stands_at part t other)

-- a position in the text that has one more character in front; 0 stays none
abbrev pub one_on : ℕ → ℕ
one_on zero = 0
one_on (suc position) = suc (suc position)

-- the one position of which `IsPosition` holds
abbrev pub position_of : List ℕ → List ℕ → ℕ
position_of part [] = if starts_with nat_eq [] part then 1 else 0
position_of part (c ∷ t) = if starts_with nat_eq (c ∷ t) part then 1 else one_on (position_of part t)

-- r is t without the blanks at its front
pub record TrimmedFront (t r : List ℕ) : Type 0 where
  pub blanks : ℕ
  pub parts : t ≡ replicate blanks blank ++ r
  pub begins : slice_get r 0 ≢ Some blank

-- r is t without the blanks at its end
pub record TrimmedEnd (t r : List ℕ) : Type 0 where
  pub blanks : ℕ
  pub parts : t ≡ r ++ replicate blanks blank
  pub ends : slice_get r (length r - 1) ≢ Some blank

-- r is t without the blanks at that side
abbrev pub Trimmed : Side → List ℕ → List ℕ → Type 0
Trimmed Leading t r = TrimmedFront t r
Trimmed Trailing t r = TrimmedEnd t r
Trimmed Both t r = (middle : List ℕ) × TrimmedFront t middle × TrimmedEnd middle r

-- the text from its first character on that isn't a blank
abbrev pub after_blanks : List ℕ → List ℕ
after_blanks [] = []
after_blanks (c ∷ t) = if nat_eq c blank then after_blanks t else c ∷ t

-- the text up to its last character that isn't a blank
abbrev pub before_blanks : List ℕ → List ℕ
before_blanks t = reverse (after_blanks (reverse t))

-- the one text of which `Trimmed` holds
abbrev pub trimmed_of : Side → List ℕ → List ℕ
trimmed_of Leading t = after_blanks t
trimmed_of Trailing t = before_blanks t
trimmed_of Both t = before_blanks (after_blanks t)
