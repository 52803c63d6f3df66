use Rattle.std.proofs.Common.{◌≡◌, take, map}
use Rattle.psm_code.specs.Instructions.{set_letter}
use Rattle.psm_verify.proofs.verify_context.set_letters.Given as goal

abbrev pub invariant-loop-set : goal.invariant-loop-set
invariant-loop-set l = l.letters.items ≡ map (λ a. set_letter l.columns l.variables a.function a.operand) (take l.set-index l.sets)
