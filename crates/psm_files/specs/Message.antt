-- The lines that say what is wrong with a file.
use Rattle.std.specs.Prelude.{ℕ, List, ◌++◌, codes, decimal}

abbrev pub cannot_read : List ℕ → List ℕ
cannot_read name = codes "cannot read " ++ name ++ codes "\n"

abbrev pub too_long : List ℕ → List ℕ
too_long name = name ++ codes " is longer than 16777216 bytes\n"

-- which file has a fault, the line and the column of that, and what is wrong
abbrev pub fault_line : List ℕ → ℕ → ℕ → List ℕ → List ℕ
fault_line noun line column text = noun ++ codes " " ++ decimal line ++ codes ":" ++ decimal column ++ codes " " ++ text ++ codes "\n"

-- a line of an object that has a fault, and what is wrong
abbrev pub object_fault_line : ℕ → List ℕ → List ℕ
object_fault_line line text = codes "object " ++ decimal line ++ codes " " ++ text ++ codes "\n"
