-- The commands that are run for those of an accepted script over code, one for one: a procedure has its number among all routines, a
-- query is code over the columns of its table, and all else is the same.
use Rattle.std.specs.Prelude.{◌≡◌, List, [], ◌∷◌, map, slice_get}
use Rattle.psm_exprcode.specs.declared.op.Letter.TheVariants.{N}
use Rattle.psm_code.specs.declared.code.RawCode.{RawCode}
use Rattle.psm_code.specs.Instructions.{column_letters}
use Rattle.psm_code.specs.Parts.{routine_at}
use Rattle.psm_meaning.specs.Session.{Command, Call, Insert, Select, Commit, Rollback}
use Rattle.psm_exprgen.specs.declared.known.Known.{Known}
use Rattle.psm_exprgen.specs.Queries.{QueryMade}
use Rattle.psm_check_script.specs.There.{procedures_in}
use Rattle.psm_session.specs.declared.command.ScriptCommand.{ScriptCommand}
use Rattle.psm_session.specs.declared.command.ScriptCommand.TheVariants as made

-- a query of a script sees the columns of its table alone
abbrev pub known_of_tables : RawCode → Known
known_of_tables code = record { functions = []; procedures = []; columns = map column_letters code.tables; takes = []; gives = []; results = []; variables = []; result = N }

abbrev pub CommandMade : RawCode → Command → ScriptCommand → Type 0
CommandMade code (Call procedure values) (made.Call routine args) = (routine_at code routine ≡ slice_get (procedures_in code.routines) procedure) × (args ≡ values)
CommandMade code (Insert table columns rows) (made.Insert at places values) = (at ≡ table) × (places ≡ columns) × (values ≡ rows)
CommandMade code (Select query) (made.Select lines) = QueryMade (known_of_tables code) query lines
CommandMade code Commit made.Commit = Unit {0}
CommandMade code Rollback made.Rollback = Unit {0}
CommandMade code command other = ⊥

abbrev pub CommandsMade : RawCode → List Command → List ScriptCommand → Type 0
CommandsMade code [] [] = Unit {0}
CommandsMade code [] (m ∷ ms) = ⊥
CommandsMade code (c ∷ cs) [] = ⊥
CommandsMade code (c ∷ cs) (m ∷ ms) = CommandMade code c m × CommandsMade code cs ms
