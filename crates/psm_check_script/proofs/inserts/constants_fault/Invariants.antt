use Rattle.std.proofs.Common.{◌≡◌, drop}
use Rattle.psm_rules.specs.Faults.{first_from, first_of}
use Rattle.psm_check_script.specs.ScriptFaults.{constants_fault}
use Rattle.psm_check_script.proofs.inserts.constants_fault.Given as goal

abbrev pub invariant-loop-number : goal.invariant-loop-number
invariant-loop-number l = first_from l.fault (constants_fault (drop l.number l.types) (drop l.number l.values)) ≡ first_of (constants_fault l.types l.values)
