-- The names whose fetch failed.
use Rattle.std.specs.Prelude.{ℕ, nat_eq, List, [], ◌∷◌, ◌++◌, count_by, Result, Ok, Err}
use Rattle.std.specs.Global.{Vec}
use Rattle.std.specs.Cmp.Lexicographic.{pointwise}
use Rattle.psm_io.specs.declared.shelf.ShelfFault.{ShelfFault}
use Rattle.psm_io.specs.declared.shelf.ShelfFault.TheVariants.{Failed, TooLong, Memory}

-- how often the name stands in the list
abbrev pub times : List ℕ → List (List ℕ) → ℕ
times name names = count_by (λ n. pointwise nat_eq n name) names

-- the names after a fetch of a name with that answer
abbrev pub names_after : List (List ℕ) → List ℕ → Result (Vec ℕ) ShelfFault → List (List ℕ)
names_after names name (Ok bytes) = names
names_after names name (Err Failed) = names ++ name ∷ []
names_after names name (Err (TooLong counted)) = names
names_after names name (Err Memory) = names
