-- A shelf in memory.
use Rattle.std.specs.Prelude.{ℕ, String, nat_eq, nat_lt, length, List, find, Option, option_map, Some, None, Result, Ok, Err, if◌then◌else◌}
use Rattle.std.specs.List.{list_any}
use Rattle.std.specs.Global.{Global, Vec}
use Rattle.std.specs.String.{string_bytes}
use Rattle.std.specs.Cmp.Lexicographic.{pointwise}
use Rattle.psm_io.specs.Count.{next_count}
use Rattle.psm_io.specs.declared.shelf.ShelfFault.{ShelfFault}
use Rattle.psm_io.specs.declared.shelf.ShelfFault.TheVariants.{Failed, TooLong}

-- the files with their names, the numbers of the calls that fail, how many calls there were, and the names whose fetch failed
pub record Shelved : Type 0 where
  pub files : List (List ℕ × List ℕ)
  pub fails : List ℕ
  pub calls : ℕ
  pub failed : List (List ℕ)

-- a file as its name and its bytes
abbrev pub file_of : String Global × Vec ℕ → List ℕ × List ℕ
file_of file = (string_bytes file.0, file.1.items)

-- the bytes of the first file of that name
abbrev pub first_named : List ℕ → List (List ℕ × List ℕ) → Option (List ℕ)
first_named name files = option_map (λ f. f.1) (find (λ f. pointwise nat_eq f.0 name) files)

-- what a file gives to one who asks for at most n bytes
abbrev pub at_most_of : ℕ → Option (List ℕ) → Result (List ℕ) ShelfFault
at_most_of most None = Err Failed
at_most_of most (Some bytes) = if nat_lt most (length bytes) then Err (TooLong (length bytes)) else Ok bytes

-- what the next call finds by a name: nothing where its number is listed, whatever the name
abbrev pub found_next : Shelved → List ℕ → Option (List ℕ)
found_next shelf name = if list_any (λ n. nat_eq n (next_count shelf.calls)) shelf.fails then None
    else first_named name shelf.files

-- what is expected of the next call
abbrev pub expected : Shelved → List ℕ → ℕ → Result (List ℕ) ShelfFault
expected shelf name most = at_most_of most (found_next shelf name)

-- an answer, with its bytes as a list
abbrev pub given : Result (Vec ℕ) ShelfFault → Result (List ℕ) ShelfFault
given (Ok bytes) = Ok bytes.items
given (Err fault) = Err fault
