-- The words of a line of a listing, and the text of lines.
use Rattle.std.specs.Prelude.{ℕ, Bool, true, false, List, [], ◌∷◌, ◌++◌, length, map, codes}
use Rattle.std.specs.List.{flat_map}
use Rattle.psm_words.specs.Words.{number}

-- words, each after a blank
abbrev pub further : List (List ℕ) → List ℕ
further [] = []
further (w ∷ ws) = 32 ∷ w ++ further ws

-- a line: its words with one blank between two
abbrev pub spaced : List (List ℕ) → List ℕ
spaced [] = []
spaced (w ∷ ws) = w ++ further ws

-- a line ends with a line feed
abbrev pub ended : List ℕ → List ℕ
ended line = line ++ 10 ∷ []

abbrev pub text : List (List ℕ) → List ℕ
text lines = flat_map ended lines

-- ---- words of numbers

abbrev pub numbers : List ℕ → List (List ℕ)
numbers ns = map number ns

-- how many there are
abbrev pub count : {A : Type 0} → List A → List ℕ
count xs = number (length xs)

abbrev pub flag : Bool → List ℕ
flag false = codes "0"
flag true = codes "1"
