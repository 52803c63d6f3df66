-- What the checker answers of a script: its first fault, or the resolved commands that stand for it where it has none.
use Rattle.std.specs.Prelude.{◌≡◌, None, List, map, Result, Ok, Err}
use Rattle.psm_tree.specs.declared.script.ScriptTree.{ScriptTree}
use Rattle.psm_rules.specs.Faults.{breaks}
use Rattle.psm_meaning.specs.Session.{Command}
use Rattle.psm_check_script.specs.Commands.{command_of}
use Rattle.psm_check_script.specs.Known.{Known}
use Rattle.psm_check_script.specs.ScriptFaults.{script_fault}
use Rattle.psm_check_script.specs.Seen.{commands_seen}
use Rattle.psm_check_script.specs.declared.check.CheckFault.{CheckFault}
use Rattle.psm_check_script.specs.declared.check.CheckFault.TheVariants.{Rule, Memory}
use Rattle.psm_check_script.specs.declared.command.ResolvedScript.{ResolvedScript}

-- the commands that stand for a script
abbrev pub script_of : Known → ScriptTree → List Command
script_of k s = map (command_of k) s.commands

abbrev pub Checks : Known → ScriptTree → Result ResolvedScript CheckFault → Type 0
Checks k s (Ok resolved) = (script_fault k s ≡ None) × (commands_seen resolved.commands ≡ script_of k s)
Checks k s (Err (Rule place rule)) = script_fault k s ≡ breaks rule place
Checks k s (Err Memory) = Unit {0}
