use Rattle.std.proofs.Common.{◌≡◌, ◌++◌, drop, map}
use Rattle.psm_rules.specs.FileFaults.{parameter_of}
use Rattle.psm_symbols.proofs.parameters.parameters_of.Given as goal

abbrev pub invariant-loop-parameter : goal.invariant-loop-parameter
invariant-loop-parameter l = l.known.items ++ map parameter_of (drop l.parameter-index l.parameters) ≡ map parameter_of l.parameters
