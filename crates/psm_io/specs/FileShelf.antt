-- Reads of a file to its end, or to more than a given number of bytes.
use Rattle.std.specs.Prelude.{◌≡◌, ℕ, ◌+◌, ◌<◌, ◌≤◌, List, ◌++◌, length, Option, IfSome, Result, Ok, Err}
use Rattle.std.specs.Global.{Vec}
use Rattle.std.specs.Io.KnownBytes.{Consumes, IsAtEnd}
use Rattle.psm_io.specs.declared.shelf.ShelfFault.{ShelfFault}
use Rattle.psm_io.specs.declared.shelf.ShelfFault.TheVariants.{Failed, TooLong, Memory}

-- The answer where a reader has these bytes left, if they are known. A fault of the reader and of memory may come at any time.
abbrev pub Reads : Option (List ℕ) → ℕ → Result (Vec ℕ) ShelfFault → Type 0
Reads left most (Ok bytes) = IfSome left (λ all. all ≡ bytes.items) × (length bytes.items ≤ most)
Reads left most (Err Failed) = Unit {0}
Reads left most (Err (TooLong counted)) = IfSome left (λ all. counted ≤ length all) × (counted ≡ most + 1)
Reads left most (Err Memory) = Unit {0}

-- One read of at most n bytes: what the reader had left and has left, if it is known, and the bytes before and after.
abbrev pub Added : Option (List ℕ) → Option (List ℕ) → List ℕ → List ℕ → ℕ → Result ℕ ShelfFault → Type 0
Added old new before after asked (Ok count) = (piece : List ℕ) × (after ≡ before ++ piece) × (length piece ≡ count)
    × (count ≤ asked) × Consumes old new piece × (count ≡ 0 → 0 < asked → IsAtEnd new)
Added old new before after asked (Err (TooLong counted)) = ⊥
Added old new before after asked (Err _) = Unit {0}
