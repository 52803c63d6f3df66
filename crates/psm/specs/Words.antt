-- The words after the program's name.
use Rattle.std.specs.Prelude.{ℕ, List, [], ◌∷◌, Option, Some, None, Bool, false, ◌&&◌, not, length, nat_eq, nat_le, nat_lt, codes, if◌then◌else◌}
use Rattle.std.specs.Char.{is_ascii_digit}
use Rattle.std.specs.Cmp.Lexicographic.{pointwise}
use Rattle.std.specs.List.{list_all}
use Rattle.std.specs.Str.Parse.{digits_value}
use Rattle.psm_commands.specs.Command.{Command, Files, Run, Compile, Exec, Generate, named}
use Rattle.psm_commands.specs.Generated.{most_calls}

-- the turns where the words state none
abbrev pub default_turns : ℕ
default_turns = 1000000

abbrev pub is_word : List ℕ → List ℕ → Bool
is_word word text = pointwise nat_eq word text

-- ---- a number is 1 to 18 decimal digits without a leading zero

abbrev pub begins_with_zero : List ℕ → Bool
begins_with_zero [] = false
begins_with_zero (digit ∷ []) = false
begins_with_zero (digit ∷ next ∷ others) = nat_eq digit 48

abbrev pub is_number : List ℕ → Bool
is_number word = list_all is_ascii_digit word && (nat_lt 0 (length word) && (nat_le (length word) 18 && not (begins_with_zero word)))

abbrev pub number_of : List ℕ → Option ℕ
number_of word = if is_number word then Some (digits_value 10 word) else None

-- ---- the forms `run M S` and `exec O S`, with `--turns N` after them or not

abbrev pub with_turns : (Files → Command) → List ℕ → List ℕ → Option ℕ → Option Command
with_turns over c s None = None
with_turns over c s (Some n) = Some (over (named c s n))

-- the command that runs a script, where the first word states one
abbrev pub script_with : List ℕ → List ℕ → List ℕ → Option ℕ → Option Command
script_with word c s turns = if is_word word (codes "run") then with_turns Run c s turns
    else if is_word word (codes "exec") then with_turns Exec c s turns
    else None

-- the turns that the words after the names state
abbrev pub turns_of : List (List ℕ) → Option ℕ
turns_of [] = Some default_turns
turns_of (option ∷ []) = None
turns_of (option ∷ n ∷ []) = if is_word option (codes "--turns") then number_of n else None
turns_of (option ∷ n ∷ other ∷ others) = None

-- ---- the forms `compile M` and `gen N`

-- a number that isn't above the most calls
abbrev pub bounded : Option ℕ → Option ℕ
bounded None = None
bounded (Some n) = if nat_le n most_calls then Some n else None

abbrev pub generate_with : Option ℕ → Option Command
generate_with None = None
generate_with (Some calls) = Some (Generate calls)

-- the command of two words
abbrev pub short_with : List ℕ → List ℕ → Option Command
short_with word w = if is_word word (codes "compile") then Some (Compile w)
    else if is_word word (codes "gen") then generate_with (bounded (number_of w))
    else None

-- ---- the command that the words state, where they have a form

abbrev pub command_in : List (List ℕ) → Option Command
command_in [] = None
command_in (word ∷ []) = None
command_in (word ∷ w ∷ []) = short_with word w
command_in (word ∷ c ∷ s ∷ options) = script_with word c s (turns_of options)
