-- How the run of a script ends: what is in the sink, the tables, and the turns that are left.
use Rattle.std.specs.Prelude.{◌≡◌, ℕ, ◌+◌, ◌⊎◌, Bool, true, false, List, [], ◌∷◌, ◌++◌, length, IsSome, slice_get, Some}
use Rattle.psm_exprcode.specs.declared.query.Query.{Query}
use Rattle.psm_table.specs.Table.{Contents}
use Rattle.psm_tablecode.specs.TypeChecks.{TypeChecksTable}
use Rattle.psm_code.specs.declared.code.CodeTable.{CodeTable}
use Rattle.psm_code.specs.declared.code.RawCode.{RawCode}
use Rattle.psm_machine.specs.Running.{Takes}
use Rattle.psm_meaning.specs.Acts.{NoTurns}
use Rattle.psm_meaning.specs.Session.{Standing, Stopped}
use Rattle.psm_session.specs.CommandSteps.{CommandExecutes, Runs}
use Rattle.psm_session.specs.Put.{Sunk, PutAll, PutUpTo}
use Rattle.psm_session.specs.declared.command.ScriptCommand.{ScriptCommand}
use Rattle.psm_session.specs.declared.command.ScriptCommand.TheVariants as commands
use Rattle.psm_session.specs.declared.script.ScriptEnd.{ScriptEnd}
use Rattle.psm_session.specs.declared.script.ScriptEnd.TheVariants as ends

-- ---- what a command names is there

-- a query that sees no variable fits its table
pub record FitsQuery (code : RawCode) (q : Query) : Type 0 where
  pub table : CodeTable
  pub there : slice_get code.tables q.table ≡ Some table
  pub type_checks : TypeChecksTable q [] table.definition

abbrev pub FitsCommand : RawCode → ScriptCommand → Type 0
FitsCommand code (commands.Call n values) = Takes code n values
FitsCommand code (commands.Insert table columns rows) = IsSome (slice_get code.tables table)
FitsCommand code (commands.Select query) = FitsQuery code query
FitsCommand code commands.Commit = Unit {0}
FitsCommand code commands.Rollback = Unit {0}

-- ---- ends

-- before the first command; the tables are those to which ROLLBACK goes
abbrev pub beginning : List Contents → ℕ → Standing
beginning tables turns = record { tables = tables; turns = turns; committed = tables }

-- the first of the commands were run, with these pieces
pub record HasRun (code : RawCode) (commands : List ScriptCommand) (s : Standing) (pieces : List (List ℕ)) (t : Standing) : Type 0 where
  pub first : List ScriptCommand
  pub later : List ScriptCommand
  pub are : commands ≡ first ++ later
  pub ran : Runs code 1 s first pieces t

-- a command of these stops because turns ran out after some that were run, with that piece
pub record RunsOut (code : RawCode) (commands : List ScriptCommand) (s : Standing) (pieces : List (List ℕ)) (t : Standing) (piece : List ℕ) : Type 0 where
  pub first : List ScriptCommand
  pub command : ScriptCommand
  pub later : List ScriptCommand
  pub are : commands ≡ first ++ command ∷ later
  pub ran : Runs code 1 s first pieces t
  pub stops : CommandExecutes code (length first + 1) t command (Stopped NoTurns (piece ∷ []))

-- all commands were run, and their pieces are put
pub record IsDone (code : RawCode) (commands : List ScriptCommand) (s : Standing) (sunk : Sunk) (tables : List Contents) (turns : ℕ) : Type 0 where
  pub pieces : List (List ℕ)
  pub end : Standing
  pub ran : Runs code 1 s commands pieces end
  pub put : PutAll sunk pieces
  pub tables_are : tables ≡ end.tables
  pub left : turns ≡ end.turns

-- the turns ran out in a command, and its piece is the last that is put; the tables are those before it
pub record IsCut (code : RawCode) (commands : List ScriptCommand) (s : Standing) (sunk : Sunk) (tables : List Contents) (turns : ℕ) : Type 0 where
  pub pieces : List (List ℕ)
  pub before : Standing
  pub piece : List ℕ
  pub runs_out : RunsOut code commands s pieces before piece
  pub put : PutAll sunk (pieces ++ piece ∷ [])
  pub tables_are : tables ≡ before.tables
  pub left : turns ≡ 0

-- the put of the piece of a command that was run failed; the pieces before it are written, and the tables are those after the command
pub record IsBroken (code : RawCode) (commands : List ScriptCommand) (s : Standing) (sunk : Sunk) (tables : List Contents) : Type 0 where
  pub pieces : List (List ℕ)
  pub failed : List ℕ
  pub end : Standing
  pub ran : HasRun code commands s (pieces ++ failed ∷ []) end
  pub put : PutUpTo sunk pieces failed
  pub tables_are : tables ≡ end.tables

-- the same of the piece of a command in which the turns ran out
pub record IsBrokenCut (code : RawCode) (commands : List ScriptCommand) (s : Standing) (sunk : Sunk) (tables : List Contents) : Type 0 where
  pub pieces : List (List ℕ)
  pub before : Standing
  pub piece : List ℕ
  pub runs_out : RunsOut code commands s pieces before piece
  pub put : PutUpTo sunk pieces piece
  pub tables_are : tables ≡ before.tables

-- memory ran out after some commands, whose pieces are put, and the tables are those after them
pub record IsShort (code : RawCode) (commands : List ScriptCommand) (s : Standing) (sunk : Sunk) (tables : List Contents) : Type 0 where
  pub pieces : List (List ℕ)
  pub end : Standing
  pub ran : HasRun code commands s pieces end
  pub put : PutAll sunk pieces
  pub tables_are : tables ≡ end.tables

abbrev pub Ends : RawCode → List ScriptCommand → Standing → Sunk → List Contents → ℕ → ScriptEnd → Type 0
Ends code commands s sunk tables turns ends.Done = IsDone code commands s sunk tables turns
Ends code commands s sunk tables turns ends.TurnsUsed = IsCut code commands s sunk tables turns
Ends code commands s sunk tables turns ends.WriteFault = IsBroken code commands s sunk tables ⊎ IsBrokenCut code commands s sunk tables
Ends code commands s sunk tables turns ends.Memory = IsShort code commands s sunk tables

-- ---- ends of a script that puts nothing

-- the last of these pieces, or that one if there are none
abbrev pub last_or : List ℕ → List (List ℕ) → List ℕ
last_or piece [] = piece
last_or piece (p ∷ ps) = last_or p ps

-- all commands were run; the piece is that of the last, empty if there is none
pub record EndsAfterAll (code : RawCode) (commands : List ScriptCommand) (s : Standing) (piece : List ℕ) (turns : ℕ) : Type 0 where
  pub pieces : List (List ℕ)
  pub end : Standing
  pub ran : Runs code 1 s commands pieces end
  pub piece_is : piece ≡ last_or [] pieces
  pub left : turns ≡ end.turns

-- the turns ran out in a command, and the piece is its own
pub record EndsWithoutTurns (code : RawCode) (commands : List ScriptCommand) (s : Standing) (piece : List ℕ) (turns : ℕ) : Type 0 where
  pub pieces : List (List ℕ)
  pub before : Standing
  pub runs_out : RunsOut code commands s pieces before piece
  pub left : turns ≡ 0

-- whether all were run, with the last piece and the turns that are left
abbrev pub EndsWith : RawCode → List ScriptCommand → Standing → Bool → List ℕ → ℕ → Type 0
EndsWith code commands s true piece turns = EndsAfterAll code commands s piece turns
EndsWith code commands s false piece turns = EndsWithoutTurns code commands s piece turns
