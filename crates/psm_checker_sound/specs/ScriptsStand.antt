-- Where NULL stands in scripts, and the numbers in them: as in the queries of their SELECTs. The constants of a CALL and of an
-- INSERT stand for themselves.
use Rattle.std.specs.Prelude.{IsTrue}
use Rattle.psm_tree.specs.declared.script.Command.{Command}
use Rattle.psm_tree.specs.declared.script.Command.TheVariants as commands
use Rattle.psm_tree.specs.declared.script.ScriptTree.{ScriptTree}
use Rattle.psm_typing.specs.TypingContext.{Each}
use Rattle.psm_checker_sound.specs.Stands.{select_stands}

abbrev pub CommandStands : Command → Type 0
CommandStands (commands.Call place procedure arguments) = Unit {0}
CommandStands (commands.Insert place table columns rows) = Unit {0}
CommandStands (commands.Select query) = IsTrue (select_stands query.query)
CommandStands (commands.Commit place) = Unit {0}
CommandStands (commands.Rollback place) = Unit {0}

abbrev pub ScriptStands : ScriptTree → Type 0
ScriptStands s = Each CommandStands s.commands
