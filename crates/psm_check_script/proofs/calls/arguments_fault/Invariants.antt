use Rattle.std.proofs.Common.{◌≡◌, drop}
use Rattle.psm_rules.specs.Faults.{first_from, first_of}
use Rattle.psm_check_script.specs.ScriptFaults.{arguments_fault}
use Rattle.psm_check_script.proofs.calls.arguments_fault.Given as goal

abbrev pub invariant-loop-number : goal.invariant-loop-number
invariant-loop-number l = first_from l.fault (arguments_fault (drop l.number l.parameters) (drop l.number l.arguments)) ≡ first_of (arguments_fault l.parameters l.arguments)
