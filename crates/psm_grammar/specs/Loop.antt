-- What a loop keeps that reads a part again and again.
use Rattle.std.specs.Prelude.{◌≡◌, ℕ, ◌+◌, ◌-◌, ◌≤◌, List, ◌++◌, length, Ok, Err}
use Rattle.psm_grammar.specs.Readers.{Out, Reader, repeat}

-- more items after those that were read
abbrev pub following : {T X : Type 0} → List X → Out T (List X) → Out T (List X)
following items (Ok r) = Ok (items ++ r.0, r.1)
following items (Err s) = Err s

-- with what is left to read, the items are those from the start
pub record Looping {T X : Type 0} (kind : T → ℕ) (first : List ℕ) (p : Reader T X) (start : List T) (items : List X) (rest : List T) : Type 0 where
  pub same : following items (repeat kind first p (length start - length items) rest) ≡ repeat kind first p (length start) start
  pub room : length rest + length items ≤ length start
