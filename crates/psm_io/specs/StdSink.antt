-- Writes of a whole piece.
use Rattle.std.specs.Prelude.{ℕ, List, take, Option, Result, Ok, Err}
use Rattle.std.specs.Io.KnownBytes.{Appends}
use Rattle.psm_io.specs.declared.sink.SinkFault.{SinkFault}
use Rattle.psm_io.specs.declared.sink.SinkFault.TheVariants.{Failed, Memory}

-- The answer where a writer held the old bytes and holds the new, if they are known.
abbrev pub Writes : Option (List ℕ) → Option (List ℕ) → List ℕ → Result (Unit {0}) SinkFault → Type 0
Writes old new piece (Ok _) = Appends old new piece
Writes old new piece (Err Failed) = (kept : ℕ) × Appends old new (take kept piece)
Writes old new piece (Err Memory) = ⊥
