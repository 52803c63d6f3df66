use Rattle.std.proofs.Common.{◌≡◌, take}
use Rattle.psm_keys.specs.Signature.{kind_numbers}
use Rattle.psm_keys.proofs.signatures.kinds_of.Given as goal

abbrev pub invariant-loop-parameter : goal.invariant-loop-parameter
invariant-loop-parameter l = l.kinds.items ≡ kind_numbers (take l.parameter-index l.parameters)
