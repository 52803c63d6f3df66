use Rattle.psm_check_script.specs.Seen.{commands_seen}
use Rattle.psm_script_code.specs.Lowered.{AllLowered}
use Rattle.psm_script_code.proofs.commands.all_lowered.Given as goal

abbrev pub invariant-loop-command : goal.invariant-loop-command
invariant-loop-command l = AllLowered l.known l.procedures (commands_seen l.yielded) l.made.items
