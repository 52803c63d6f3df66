use Rattle.std.proofs.Common.{◌≡◌, ◌++◌, drop, map}
use Rattle.psm_check_script.specs.Checked.{script_of}
use Rattle.psm_check_script.specs.Commands.{command_of}
use Rattle.psm_check_script.specs.Seen.{commands_seen}
use Rattle.psm_check_script.proofs.check.commands_of.Given as goal

abbrev pub invariant-loop-command : goal.invariant-loop-command
invariant-loop-command l = commands_seen l.made.items ++ map (command_of l.known) (drop l.command-index l.command-items) ≡ script_of l.known l.script
