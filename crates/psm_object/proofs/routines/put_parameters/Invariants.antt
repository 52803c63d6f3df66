use Rattle.std.proofs.Common.{◌≡◌, ◌++◌, drop, map}
use Rattle.psm_object.specs.Routines.{parameter_line}
use Rattle.psm_object.specs.Words.{text}
use Rattle.psm_object.proofs.routines.put_parameters.Given as goal

abbrev pub invariant-loop-parameter : goal.invariant-loop-parameter
invariant-loop-parameter l = l.out.items ++ text (map parameter_line (drop l.parameter-index l.parameters)) ≡ l.fn.out.items ++ text (map parameter_line l.parameters)
