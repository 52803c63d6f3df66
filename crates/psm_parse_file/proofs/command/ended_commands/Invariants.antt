use Rattle.std.proofs.Common.{◌-◌}
use Rattle.psm_tree.specs.FileGrammar.{ended_command}
use Rattle.psm_tree.specs.Readers.{Repeating}
use Rattle.psm_parse_file.proofs.command.ended_commands.Given as goal

abbrev pub invariant-loop-turn : goal.invariant-loop-turn
invariant-loop-turn l = Repeating l.levels ended_command l.initial.tokens.rest.now l.commands.items (l._turn-end - l._turn) l.tokens.rest.now
