use Rattle.std.proofs.Common.{◌≡◌, take, map}
use Rattle.psm_verify.specs.Called.{call_of}
use Rattle.psm_verify.proofs.calls.calls_of.Given as goal

abbrev pub invariant-loop-routine : goal.invariant-loop-routine
invariant-loop-routine l = l.calls.items ≡ map call_of (take l.routine-index l.routines)
