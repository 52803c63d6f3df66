-- The faults of a sink.
use Rattle.std.specs.Prelude.{ℕ, Result, Ok, Err}
use Rattle.psm_io.specs.Count.{next_count}
use Rattle.psm_io.specs.declared.sink.SinkFault.{SinkFault}
use Rattle.psm_io.specs.declared.sink.SinkFault.TheVariants.{Failed, Memory}

-- the count of faults after a put with that answer
abbrev pub faults_after : ℕ → Result (Unit {0}) SinkFault → ℕ
faults_after faults (Ok _) = faults
faults_after faults (Err Failed) = next_count faults
faults_after faults (Err Memory) = faults
