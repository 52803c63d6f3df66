-- A sink in memory.
use Rattle.std.specs.Prelude.{ℕ, nat_eq, List, [], take, find, Option, option_map, Some, None, Result, Ok, Err}
use Rattle.psm_io.specs.Count.{next_count}
use Rattle.psm_io.specs.declared.sink.SinkFault.{SinkFault}
use Rattle.psm_io.specs.declared.sink.SinkFault.TheVariants.{Failed}

-- what is written, the calls that fail with the bytes that each keeps, how many calls there were, and how many failed
pub record Sunk : Type 0 where
  pub written : List ℕ
  pub fails : List (ℕ × ℕ)
  pub calls : ℕ
  pub faults : ℕ

-- how many bytes the call of that number keeps, where it is listed; its first entry counts
abbrev pub listed_at : ℕ → List (ℕ × ℕ) → Option ℕ
listed_at call entries = option_map (λ e. e.1) (find (λ e. nat_eq e.0 call) entries)

-- how many bytes the next call keeps, where it is to fail
abbrev pub kept_next : Sunk → Option ℕ
kept_next sink = listed_at (next_count sink.calls) sink.fails

-- what is expected of a call
abbrev pub expected_put : Option ℕ → Result (Unit {0}) SinkFault
expected_put None = Ok tt
expected_put (Some kept) = Err Failed

-- what a put of a piece appends
abbrev pub appended : Option ℕ → List ℕ → Result (Unit {0}) SinkFault → List ℕ
appended None piece (Ok _) = piece
appended (Some kept) piece (Err Failed) = take kept piece
appended _ piece _ = []
