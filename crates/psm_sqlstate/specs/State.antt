-- SQLSTATEs (ISO/IEC 9075:1992, 22.1).
use Rattle.std.specs.Prelude.{◌≡◌, ℕ, Bool, ◌||◌, IsTrue, List, length}
use Rattle.std.specs.Char.{is_ascii_digit, is_ascii_uppercase}
use Rattle.std.specs.List.{list_all}

-- a digit or a capital letter
abbrev pub is_state_character : ℕ → Bool
is_state_character c = is_ascii_digit c || is_ascii_uppercase c

-- five such characters
abbrev pub IsState : List ℕ → Type 0
IsState text = (length text ≡ 5) × IsTrue (list_all is_state_character text)
