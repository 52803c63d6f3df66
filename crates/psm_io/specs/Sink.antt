-- What a put does.
use Rattle.std.specs.Prelude.{◌≡◌, ℕ, List, ◌++◌, take, Option, option_map, Result, Ok, Err}
use Rattle.psm_io.specs.Count.{Rose}
use Rattle.psm_io.specs.declared.sink.SinkFault.{SinkFault}
use Rattle.psm_io.specs.declared.sink.SinkFault.TheVariants.{Failed, Memory}

-- what a sink holds has grown by the bytes, if it is known
abbrev pub Grew : Option (List ℕ) → Option (List ℕ) → List ℕ → Type 0
Grew old new bytes = new ≡ option_map (λ held. held ++ bytes) old

-- The answer to a put of a piece: old and new are what the sink holds, if it is known, before and after its count of faults.
abbrev pub Put : Option (List ℕ) → Option (List ℕ) → ℕ → ℕ → List ℕ → Result (Unit {0}) SinkFault → Type 0
Put old new before after piece (Ok _) = Grew old new piece × (after ≡ before)
Put old new before after piece (Err Failed) = (kept : ℕ) × Grew old new (take kept piece) × Rose before after
Put old new before after piece (Err Memory) = (new ≡ old) × (after ≡ before)
