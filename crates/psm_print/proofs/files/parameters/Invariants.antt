use Rattle.std.proofs.Common.{◌≡◌, ◌++◌, drop, map}
use Rattle.psm_print.specs.FileTokens.{parameter_tokens, parameters_tokens}
use Rattle.psm_print.proofs.Listing.{left}
use Rattle.psm_print.proofs.files.parameters.Given as goal

abbrev pub invariant-loop-item : goal.invariant-loop-item
invariant-loop-item l = l.out ++ left l.first (map parameter_tokens (drop l.item-index l.item-items)) ≡ l.fn.out ++ parameters_tokens l.parameters
