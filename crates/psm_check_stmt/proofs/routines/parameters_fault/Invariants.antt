use Rattle.std.proofs.Common.{◌≡◌, drop, map}
use Rattle.psm_rules.specs.Faults.{first_from, first_of}
use Rattle.psm_rules.specs.FileFaults.{parameter_fault}
use Rattle.psm_check_stmt.proofs.routines.parameters_fault.Given as goal

abbrev pub invariant-loop-parameter : goal.invariant-loop-parameter
invariant-loop-parameter l = first_from l.fault (map (parameter_fault l.of_function) (drop l.parameter-index l.parameters))
    ≡ first_of (map (parameter_fault l.of_function) l.parameters)
