-- What a script ends in that is run over code: the session of its commands from the tables of the code, all empty. No module file is
-- looked at.
use Rattle.std.specs.Prelude.{◌≡◌, ℕ, List, [], ◌∷◌, ◌++◌, take}
use Rattle.psm_table.specs.Table.{Contents}
use Rattle.psm_meaning.specs.Acts.{NoTurns}
use Rattle.psm_meaning.specs.Session.{Session, Standing, Cut, Done}
use Rattle.psm_code.specs.declared.code.RawCode.{RawCode}
use Rattle.psm_session.specs.CommandSteps.{Runs}
use Rattle.psm_session.specs.Ends.{RunsOut, beginning}
use Rattle.psm_session.specs.declared.command.ScriptCommand.{ScriptCommand}
use Rattle.psm_build.specs.Outcome.{RunsAs, empty_tables}
use Rattle.psm_build.specs.Program.{IsScriptOf}

-- ---- commands

-- the session of commands over code, from tables and turns: their pieces, how it ends, and the tables and the turns that are left. It ends
-- after the last command, or in the command for which the turns ran out, with the tables before that
pub data HasSession (code : RawCode) (commands : List ScriptCommand) (s : Standing) : Session → Type 0 where
  done : {pieces : List (List ℕ)} {t : Standing} → Runs code 1 s commands pieces t → HasSession code commands s (record { pieces = pieces; tables = t.tables; turns = t.turns; end = Done })
  cut : {pieces : List (List ℕ)} {t : Standing} {piece : List ℕ} → RunsOut code commands s pieces t piece
      → HasSession code commands s (record { pieces = pieces ++ piece ∷ []; tables = t.tables; turns = 0; end = Cut NoTurns })

-- the same from the tables of the code, all empty
abbrev pub EndIn : RawCode → List ScriptCommand → ℕ → Session → Type 0
EndIn code commands turns ends_in = HasSession code commands (beginning (empty_tables code) turns) ends_in

-- commands leave these tables
pub record Leave (code : RawCode) (commands : List ScriptCommand) (turns : ℕ) (tables : List Contents) : Type 0 where
  pub session : Session
  pub is : EndIn code commands turns session
  pub tables_are : tables ≡ session.tables

-- however a run of the commands ends, it shows that session
pub record AreShown (code : RawCode) (commands : List ScriptCommand) (turns : ℕ) (session : Session) : Type 0 where
  -- the tables after the first n commands, which are those that these commands alone leave
  pub following : ℕ → List Contents
  pub following_are : (n : ℕ) → Leave code (take n commands) turns (following n)
  pub runs_as : RunsAs code commands turns session following

-- ---- scripts

-- the bytes ss are a script over the code, whose commands end in that session with n turns
pub record CodeEndsIn (code : RawCode) (ss : List ℕ) (turns : ℕ) (ends_in : Session) : Type 0 where
  pub commands : List ScriptCommand
  pub script : IsScriptOf code ss commands
  pub session : EndIn code commands turns ends_in

-- the bytes ss are a script over the code, with some commands
pub record IsScriptOver (code : RawCode) (ss : List ℕ) : Type 0 where
  pub commands : List ScriptCommand
  pub script : IsScriptOf code ss commands
