-- What is expected of the command that runs a script over an object.
use Rattle.std.specs.Prelude.{◌≡◌, ℕ, List, Some}
use Rattle.psm_build.specs.ModuleCode.{IsScriptFaultOver}
use Rattle.psm_code.specs.declared.code.RawCode.{RawCode}
use Rattle.psm_code_session.specs.CodeSession.{CodeEndsIn}
use Rattle.psm_files.specs.Expected.{Expected}
use Rattle.psm_files.specs.Given.{Given}
use Rattle.psm_load.specs.Loading.{IsObject}
use Rattle.psm_meaning.specs.Session.{Session}
use Rattle.psm_commands.specs.Command.{Files}
use Rattle.psm_commands.specs.Run.{expected_for_session}
use Rattle.psm_commands.specs.Sources.{ForObject, ForScript}

-- the script has a session over the code, for which this is expected
pub record RunsScriptOver (given : Given) (code : RawCode) (ss : List ℕ) (turns : ℕ) (expected : Expected) : Type 0 where
  pub session : Session
  pub ends_in : CodeEndsIn code ss turns session
  pub none_fails : given.NoneFails
  pub expected_is : expected_for_session session ≡ Some expected

-- the bytes are the listing of well-formed code, over which the script decides
pub record IsOver (given : Given) (f : Files) (os : List ℕ) (expected : Expected) : Type 0 where
  pub code : RawCode
  pub object : IsObject os code
  pub for_script : ForScript given (IsScriptFaultOver code) f.for_script (λ ss. RunsScriptOver given code ss f.turns) expected

-- the first of the two files that isn't accepted decides, else the session of the script over the code that the object lists
abbrev pub ForExec : Given → Files → Expected → Type 0
ForExec given f = ForObject given f.for_code (IsOver given f)
