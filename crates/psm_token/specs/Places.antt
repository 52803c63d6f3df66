-- Places in a file: lines and columns from 1, where a line feed alone begins a new line.
use Rattle.std.specs.Prelude.{ℕ, ◌+◌, ◌^◌, ◌<◌, List, [], ◌∷◌, length, nat_eq, if◌then◌else◌}
use Rattle.psm_token.specs.declared.place.Place.{Place}

-- the first place
abbrev pub start : Place
start = record { line = 1; column = 1 }

-- the place after a character
abbrev pub next_place : ℕ → Place → Place
next_place c p = if nat_eq c 10 then record { line = p.line + 1; column = 1 } else record { line = p.line; column = p.column + 1 }

-- the place after some characters
abbrev pub place_after : List ℕ → Place → Place
place_after [] p = p
place_after (c ∷ cs) p = place_after cs (next_place c p)

-- n characters have places of 32 bits from here on
pub record HasRoom (p : Place) (cs : List ℕ) : Type 0 where
  pub lines : p.line + length cs < 2 ^ 32
  pub columns : p.column + length cs < 2 ^ 32
