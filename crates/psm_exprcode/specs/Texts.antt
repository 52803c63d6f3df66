-- POSITION, TRIM and LIKE as functions (ISO/IEC 9075:1992, 6.6, 6.7 and 8.5). Texts have them as relations; what an
-- expression evaluates to is a function, so here stands the one answer that each relation allows.
use Rattle.std.specs.Prelude.{ℕ, suc, Bool, true, false, ◌||◌, List, [], ◌∷◌, reverse, nat_eq, Option, Result, Ok, Err, if◌then◌else◌}
use Rattle.std.specs.List.{starts_with}
use Rattle.psm_text.specs.declared.fault.TextFault.{TextFault}
use Rattle.psm_text.specs.declared.fault.TextFault.TheVariants as texts
use Rattle.psm_text.specs.declared.parts.Side.{Side}
use Rattle.psm_text.specs.declared.parts.Side.TheVariants.{Leading, Trailing, Both}
use Rattle.psm_text.specs.Like.{Item, Literal, One, Any, items_of, well_formed}
use Rattle.psm_value.specs.Cast.{without_front, trimmed}

-- the first position from the given one on at which the part stands, where the text begins at the given one; else 0
abbrev pub first_position_from : ℕ → List ℕ → List ℕ → ℕ
first_position_from position part [] = if starts_with nat_eq [] part then position else 0
first_position_from position part (c ∷ t) = if starts_with nat_eq (c ∷ t) part then position else first_position_from (suc position) part t

-- the first position, from 1, of the part in the text, or 0
abbrev pub first_position : List ℕ → List ℕ → ℕ
first_position part t = first_position_from 1 part t

-- the text without the blanks at that side
abbrev pub trim_of : Side → List ℕ → List ℕ
trim_of Leading t = without_front t
trim_of Trailing t = reverse (without_front (reverse t))
trim_of Both t = trimmed t

-- whether a test holds of the text, or of the text after some of its characters
abbrev pub is_later : (List ℕ → Bool) → List ℕ → Bool
is_later test [] = test []
is_later test (c ∷ t) = test (c ∷ t) || is_later test t

-- whether the items of a pattern stand for the text
abbrev pub matches : List Item → List ℕ → Bool
matches [] [] = true
matches [] (c ∷ t) = false
matches (Any ∷ p) t = is_later (matches p) t
matches (One ∷ p) [] = false
matches (One ∷ p) (c ∷ t) = matches p t
matches (Literal d ∷ p) [] = false
matches (Literal d ∷ p) (c ∷ t) = if nat_eq c d then matches p t else false

-- LIKE: a fault of the escape text, then one of the pattern, then whether the text matches
abbrev pub like_of : Result (Option ℕ) TextFault → List ℕ → List ℕ → Result Bool TextFault
like_of (Err fault) pattern t = Err fault
like_of (Ok e) pattern t = if well_formed e pattern then Ok (matches (items_of e pattern) t) else Err texts.EscapePair
