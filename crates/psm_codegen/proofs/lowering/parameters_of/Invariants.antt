use Rattle.std.proofs.Common.{◌≡◌, ◌++◌, drop, map}
use Rattle.psm_simulation.specs.Simulation.{parameter_of}
use Rattle.psm_codegen.proofs.lowering.parameters_of.Given as goal

abbrev pub invariant-loop-parameter : goal.invariant-loop-parameter
invariant-loop-parameter l = map parameter_of l.parameters ≡ l.all.items ++ map parameter_of (drop l.parameter-index l.parameter-items)
