-- What code has in common with the module file that it stands for.
use Rattle.std.specs.Prelude.{◌≡◌, ℕ, ◌⊎◌, List}
use Rattle.psm_check_script.specs.Known.{known_of}
use Rattle.psm_code.specs.declared.code.RawCode.{RawCode}
use Rattle.psm_session.specs.declared.command.ScriptCommand.{ScriptCommand}
use Rattle.psm_faults.specs.Source.{scripts, IsFaultAt, IsScriptRuleFault}
use Rattle.psm_faults.specs.declared.fault.Fault.{Fault}
use Rattle.psm_faults.specs.declared.fault.BuildFault.TheVariants.{Refused}
use Rattle.psm_build.specs.Outcome.{RunsOver}
use Rattle.psm_build.specs.Program.{IsModuleFile, IsScriptFault, IsScriptOf, known_over}

-- the first fault of the bytes as a script over the code is that one, at that line and column
abbrev pub IsScriptFaultOver : RawCode → List ℕ → ℕ → ℕ → Fault → Type 0
IsScriptFaultOver code bytes line column fault = IsFaultAt scripts bytes line column fault ⊎ IsScriptRuleFault (known_of code) bytes (Refused line column fault)

-- the code means what the module file ms means
pub record MeansModule (ms : List ℕ) (code : RawCode) : Type 0 where
  pub file : IsModuleFile ms
  -- it has the file's tables and procedures: a script may name the same over both
  pub known : known_of code ≡ known_over file
  -- a script has the same first fault over both
  pub fault_over_code : (ss : List ℕ) (line column : ℕ) (fault : Fault) → IsScriptFault ms ss line column fault → IsScriptFaultOver code ss line column fault
  pub fault_over_file : (ss : List ℕ) (line column : ℕ) (fault : Fault) → IsScriptFaultOver code ss line column fault → IsScriptFault ms ss line column fault
  -- each run of an accepted script's commands over the code shows the session that the two files end in, with its pieces, end, tables and turns
  pub runs : (ss : List ℕ) (commands : List ScriptCommand) → IsScriptOf code ss commands → RunsOver ms ss code commands
