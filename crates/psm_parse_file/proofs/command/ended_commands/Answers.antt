use Rattle.std.proofs.Common.{rules}
use Rattle.psm_tree.specs.FileGrammar.{ended_commands}
use Rattle.psm_tree.proofs.Firsts.{first_ended_command}
use Rattle.psm_tree.proofs.Repeating.{turns}
use Rattle.psm_parse_file.proofs.command.ended_commands.Goals as goal

pub returns : goal.returns
unfolding ended_commands
returns c = search (rules, turns, first_ended_command)
