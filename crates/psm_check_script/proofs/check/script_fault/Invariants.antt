use Rattle.std.proofs.Common.{◌≡◌, drop, map}
use Rattle.psm_rules.specs.Faults.{first_from}
use Rattle.psm_check_script.specs.ScriptFaults.{command_fault, script_fault}
use Rattle.psm_check_script.proofs.check.script_fault.Given as goal

abbrev pub invariant-loop-command : goal.invariant-loop-command
invariant-loop-command l = first_from l.fault (map (command_fault l.known) (drop l.command-index l.command-items)) ≡ script_fault l.known l.script
