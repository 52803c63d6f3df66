use Rattle.std.proofs.Common.{◌≡◌, take, map}
use Rattle.psm_codegen.specs.Files.{letter_of_result}
use Rattle.psm_codegen.proofs.routines.results_of.Given as goal

abbrev pub invariant-loop-routine : goal.invariant-loop-routine
invariant-loop-routine l = l.letters.items ≡ map (λ r. letter_of_result r.returns) (take l.routine-index l.routine-items)
