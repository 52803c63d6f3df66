-- Characters by what they stand for in a file (ISO/IEC 9075:1992, 5.1).
use Rattle.std.specs.Prelude.{ℕ, Bool, false, not, ◌||◌, List, [], ◌∷◌, nat_eq}
use Rattle.std.specs.Char.{is_ascii_digit, is_ascii_alphabetic}
use Rattle.psm_token.specs.declared.scan.Class.{Class}
use Rattle.psm_token.specs.declared.scan.Class.TheVariants.{Digit, NameLetter, NamePart, InLine}

-- a blank, a tab, a line feed or a carriage return
abbrev pub is_separator : ℕ → Bool
is_separator c = nat_eq c 32 || nat_eq c 9 || nat_eq c 10 || nat_eq c 13

-- a letter or an underscore
abbrev pub is_name_letter : ℕ → Bool
is_name_letter c = is_ascii_alphabetic c || nat_eq c 95

-- a letter, a digit or an underscore
abbrev pub is_name_part : ℕ → Bool
is_name_part c = is_name_letter c || is_ascii_digit c

-- a character before the end of a line
abbrev pub is_in_line : ℕ → Bool
is_in_line c = not (nat_eq c 10)

-- whether a character is of a class
abbrev pub is_of : Class → ℕ → Bool
is_of Digit c = is_ascii_digit c
is_of NameLetter c = is_name_letter c
is_of NamePart c = is_name_part c
is_of InLine c = is_in_line c

-- whether the first character passes a test
abbrev pub begins : (ℕ → Bool) → List ℕ → Bool
begins p [] = false
begins p (c ∷ cs) = p c
