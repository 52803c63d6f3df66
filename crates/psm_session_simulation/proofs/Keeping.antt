-- What stays true from command to command: the tables fit the file, and the turns are no more than n.
use Rattle.std.proofs.Common.{◌≡◌, ◌≤◌, ℕ, List}
use Rattle.psm_resolved.specs.declared.file.ResolvedFile.{ResolvedFile}
use Rattle.psm_meaning.specs.Acts.{Given, Got, Raises, Ends, NoTurns, OutOfFuel, Stuck, Act, Meaning}
use Rattle.psm_meaning.specs.Meaning.{meaning}
use Rattle.psm_meaning.specs.Session.{Command, CommandResult, Standing, Stopped, Went, at_command, ended, command_result, run}
use Rattle.psm_meaning.specs.State.{State}
use Rattle.psm_typing.specs.States.{AreFilled}

pub record IsKept (file : ResolvedFile) (turns : ℕ) (s : Standing) : Type 0 where
  pub tables : AreFilled file.tables s.tables
  pub committed : AreFilled file.tables s.committed
  pub left : s.turns ≤ turns

abbrev pub IsCommandResult : ResolvedFile → ℕ → CommandResult → Type 0
IsCommandResult file turns (Went piece next) = IsKept file turns next
IsCommandResult file turns (Stopped stop pieces) = Unit {0}

ended-kept : (file : ResolvedFile) (turns : ℕ) (first : List ℕ) (s : Standing) (g : Given (List ℕ)) (st : State) → AreFilled file.tables s.committed → AreFilled file.tables st.tables → st.turns ≤ turns → IsCommandResult file turns (ended first s g st)
ended-kept file turns first s (Got lines) st c t l = record { tables = t; committed = c; left = l }
ended-kept file turns first s (Raises e) st c t l = record { tables = t; committed = c; left = l }
ended-kept file turns first s (Ends NoTurns) st c t l = tt
ended-kept file turns first s (Ends OutOfFuel) st c t l = tt
ended-kept file turns first s (Ends Stuck) st c t l = tt

pub run-kept : (file : ResolvedFile) (turns : ℕ) (m : Meaning) (first : List ℕ) (s : Standing) (act : Act (List ℕ)) → AreFilled file.tables s.committed → AreFilled file.tables (act m (at_command s)).state.tables → (act m (at_command s)).state.turns ≤ turns
    → IsCommandResult file turns (run first s act m)
run-kept file turns m first s act c t l = ended-kept file turns first s (act m (at_command s)).given (act m (at_command s)).state c t l

-- a command runs so, and what has to stay true does
pub record Does (file : ResolvedFile) (h turns : ℕ) (first : List ℕ) (s : Standing) (c : Command) (p : CommandResult) : Type 0 where
  pub same : command_result file (meaning file h) first s c ≡ p
  pub kept : AreFilled file.tables s.committed → IsCommandResult file turns p
