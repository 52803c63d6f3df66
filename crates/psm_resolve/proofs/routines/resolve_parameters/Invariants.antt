use Rattle.std.proofs.Common.{◌≡◌, ◌++◌, drop, map}
use Rattle.psm_resolve.specs.Files.{resolve_parameter}
use Rattle.psm_resolve.proofs.routines.resolve_parameters.Given as goal

abbrev pub invariant-loop-parameter : goal.invariant-loop-parameter
invariant-loop-parameter l = l.resolved.items ++ map resolve_parameter (drop l.parameter-index l.parameters) ≡ map resolve_parameter l.parameters
