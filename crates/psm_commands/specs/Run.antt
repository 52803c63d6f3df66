-- What is expected of the command that runs a script over a module file.
use Rattle.std.specs.Prelude.{◌≡◌, ℕ, List, Option, Some, None}
use Rattle.psm_build.specs.Program.{EndsIn, IsModuleFile, IsScriptFault}
use Rattle.psm_files.specs.Expected.{Expected}
use Rattle.psm_files.specs.Given.{Given}
use Rattle.psm_files.specs.declared.status.Status.{Status}
use Rattle.psm_files.specs.declared.status.Status.TheVariants as status
use Rattle.psm_meaning.specs.Acts.{NoTurns, OutOfFuel, Stuck}
use Rattle.psm_meaning.specs.Session.{Session, End, Cut, Done}
use Rattle.psm_commands.specs.Command.{Files}
use Rattle.psm_commands.specs.Sources.{ForModule, ForScript}

-- A session ends after its last command or where the turns ran out; nothing is expected for another end.
abbrev pub status_at : End → Option Status
status_at Done = Some status.Done
status_at (Cut NoTurns) = Some status.TurnsUsed
status_at (Cut OutOfFuel) = None
status_at (Cut Stuck) = None

abbrev pub with_status : List (List ℕ) → Option Status → Option Expected
with_status pieces None = None
with_status pieces (Some s) = Some (record { status = s; pieces = pieces })

-- for what the two files end in
abbrev pub expected_for_session : Session → Option Expected
expected_for_session s = with_status s.pieces (status_at s.end)

-- the two files end in a session, for which this is expected
pub record RunsScript (given : Given) (ms ss : List ℕ) (turns : ℕ) (expected : Expected) : Type 0 where
  pub session : Session
  pub ends_in : EndsIn ms ss turns session
  pub none_fails : given.NoneFails
  pub expected_is : expected_for_session session ≡ Some expected

-- the first of the two files that isn't accepted decides, else the session that they end in
abbrev pub ForRun : Given → Files → Expected → Type 0
ForRun given f = ForModule given f.for_code (λ ms expected. IsModuleFile ms × ForScript given (IsScriptFault ms) f.for_script (λ ss. RunsScript given ms ss f.turns) expected)
