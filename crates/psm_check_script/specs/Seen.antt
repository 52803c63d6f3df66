-- A command of a resolved script as its meaning has it.
use Rattle.std.specs.Prelude.{List, map}
use Rattle.psm_meaning.specs.Session.{Command, Call, Insert, Select, Commit, Rollback}
use Rattle.psm_check_script.specs.declared.command.ResolvedCommand.{ResolvedCommand}
use Rattle.psm_check_script.specs.declared.command.ResolvedCommand.TheVariants as resolved

abbrev pub command_seen : ResolvedCommand → Command
command_seen (resolved.Call procedure values) = Call procedure values
command_seen (resolved.Insert table columns rows) = Insert table columns rows
command_seen (resolved.Select query) = Select query
command_seen resolved.Commit = Commit
command_seen resolved.Rollback = Rollback

abbrev pub commands_seen : List ResolvedCommand → List Command
commands_seen cs = map command_seen cs
