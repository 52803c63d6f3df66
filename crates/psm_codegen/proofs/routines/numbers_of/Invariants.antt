use Rattle.std.proofs.Common.{◌≡◌}
use Rattle.psm_codegen.specs.FileKnown.{is_kind}
use Rattle.psm_codegen.proofs.Gathers.{Numbers}
use Rattle.psm_codegen.proofs.routines.numbers_of.Given as goal

abbrev pub invariant-loop-routine : goal.invariant-loop-routine
invariant-loop-routine l = (l.at ≡ l.routine-index) × Numbers (is_kind l.functions) l.routine-items l.routine-index l.numbers.items
