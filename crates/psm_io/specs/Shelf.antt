-- What a fetch answers.
use Rattle.std.specs.Prelude.{◌≡◌, ℕ, ◌<◌, ◌≤◌, List, length, Option, IfSome, Result, Ok, Err}
use Rattle.std.specs.Global.{Vec}
use Rattle.psm_io.specs.Count.{Rose}
use Rattle.psm_io.specs.declared.shelf.ShelfFault.{ShelfFault}
use Rattle.psm_io.specs.declared.shelf.ShelfFault.TheVariants.{Failed, TooLong, Memory}

-- The answer to a fetch of a name: known is what that file holds, if it is known, most the bytes that were
-- asked for, and before and after the name's count of faults.
abbrev pub Fetched : Option (List ℕ) → ℕ → ℕ → ℕ → Result (Vec ℕ) ShelfFault → Type 0
Fetched known most before after (Ok bytes) =
    IfSome known (λ held. held ≡ bytes.items) × (length bytes.items ≤ most) × (after ≡ before)
Fetched known most before after (Err Failed) = Rose before after
Fetched known most before after (Err (TooLong counted)) =
    IfSome known (λ held. counted ≤ length held) × (most < counted) × (after ≡ before)
Fetched known most before after (Err Memory) = after ≡ before
