-- Which commands of code stand for the commands of a script: they name the same procedures and tables, and give them the same values.
use Rattle.std.specs.Prelude.{◌≡◌, ℕ, true, List, [], ◌∷◌, map, slice_get, Some}
use Rattle.psm_exprcode.specs.declared.query.Query.{Query}
use Rattle.psm_resolved.specs.declared.expr.ResolvedQuery.{ResolvedQuery}
use Rattle.psm_resolved.specs.declared.file.ResolvedFile.{ResolvedFile}
use Rattle.psm_resolved.specs.declared.file.ResolvedRoutine.{ResolvedRoutine}
use Rattle.psm_resolved.specs.declared.file.ResolvedTable.{ResolvedTable}
use Rattle.psm_meaning.specs.Calls.{procedure_at}
use Rattle.psm_meaning.specs.Session.{Command, Call, Insert, Select, Commit, Rollback}
use Rattle.psm_code.specs.declared.code.CodeTable.{CodeTable}
use Rattle.psm_code.specs.declared.code.RawCode.{RawCode}
use Rattle.psm_code.specs.declared.code.RawRoutine.{RawRoutine}
use Rattle.psm_code.specs.Parts.{routine_at}
use Rattle.psm_simulation.specs.Changes.{TableStands}
use Rattle.psm_simulation.specs.Simulation.{parameter_of}
use Rattle.psm_exprgen.specs.declared.known.Known.{Known}
use Rattle.psm_exprgen.specs.Queries.{QueryMade, is_query}
use Rattle.psm_session.specs.declared.command.ScriptCommand.{ScriptCommand}
use Rattle.psm_session.specs.declared.command.ScriptCommand.TheVariants as commands

-- ---- what the two commands name

-- A procedure: a script has its number among the procedures, and code that among all routines, as the file has it.
pub record CallStands (file : ResolvedFile) (code : RawCode) (procedure n : ℕ) : Type 0 where
  pub routine : ResolvedRoutine
  pub coded : RawRoutine
  pub named : procedure_at file procedure ≡ Some routine
  pub there : slice_get file.routines n ≡ Some routine
  pub at : routine_at code n ≡ Some coded
  pub name : coded.name ≡ routine.name
  pub parameters : coded.parameters ≡ map parameter_of routine.parameters

-- a table, which has one number in both
pub record InsertStands (file : ResolvedFile) (code : RawCode) (table : ℕ) : Type 0 where
  pub named : ResolvedTable
  pub coded : CodeTable
  pub there : slice_get file.tables table ≡ Some named
  pub at : slice_get code.tables table ≡ Some coded
  pub stands : TableStands named coded
  pub keys : code.keys ≡ file.keys

-- a query whose expressions are of letters, and which sees no variable
pub record SelectStands (query : ResolvedQuery) (coded : Query) : Type 0 where
  pub known : Known
  pub none : known.variables ≡ []
  pub is : is_query known query ≡ true
  pub made : QueryMade known query coded

-- ---- commands

abbrev pub CommandStands : ResolvedFile → RawCode → Command → ScriptCommand → Type 0
CommandStands file code (Call procedure values) (commands.Call n others) = (values ≡ others) × CallStands file code procedure n
CommandStands file code (Insert table columns rows) (commands.Insert other places others) = (table ≡ other) × (columns ≡ places) × (rows ≡ others) × InsertStands file code table
CommandStands file code (Select query) (commands.Select coded) = SelectStands query coded
CommandStands file code Commit commands.Commit = Unit {0}
CommandStands file code Rollback commands.Rollback = Unit {0}
CommandStands file code c d = ⊥

-- one for one
abbrev pub CommandsStand : ResolvedFile → RawCode → List Command → List ScriptCommand → Type 0
CommandsStand file code [] [] = Unit {0}
CommandsStand file code [] (d ∷ ds) = ⊥
CommandsStand file code (c ∷ cs) [] = ⊥
CommandsStand file code (c ∷ cs) (d ∷ ds) = CommandStands file code c d × CommandsStand file code cs ds
