use Rattle.std.proofs.Common.{◌≡◌, take, map}
use Rattle.psm_exprcode.specs.Kinds.{letter_of}
use Rattle.psm_verify.proofs.verify_context.letters_of_parameters.Given as goal

abbrev pub invariant-loop-parameter : goal.invariant-loop-parameter
invariant-loop-parameter l = l.letters.items ≡ map (λ p. letter_of p.kind) (take l.parameter-index l.parameters)
