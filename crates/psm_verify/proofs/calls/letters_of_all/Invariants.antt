use Rattle.std.proofs.Common.{◌≡◌, take}
use Rattle.psm_code.specs.Instructions.{parameter_letters}
use Rattle.psm_verify.proofs.calls.letters_of_all.Given as goal

abbrev pub invariant-loop-parameter : goal.invariant-loop-parameter
invariant-loop-parameter l = l.letters.items ≡ parameter_letters (take l.parameter-index l.parameters)
