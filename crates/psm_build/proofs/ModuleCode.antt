-- Code that stands for a module file means what the file means.
use Rattle.std.proofs.Common.{ℕ, List, sym, ◌∙◌, subst}
use Rattle.psm_check_script.specs.Known.{Known}
use Rattle.psm_code.specs.declared.code.RawCode.{RawCode}
use Rattle.psm_faults.specs.declared.fault.Fault.{Fault}
use Rattle.psm_build.specs.ModuleCode.{IsScriptFaultOver, MeansModule}
use Rattle.psm_build.specs.Program.{IsScriptFault, StandsFor}
use Rattle.psm_build.proofs.Compiled.{fault_over, known_over_code}
use Rattle.psm_build.proofs.Files.{IsFaultOver, known_once}
use Rattle.psm_build.proofs.Scripts.{runs_over}

fault_over_code : (ms ss : List ℕ) (code : RawCode) (line column : ℕ) (fault : Fault) → StandsFor ms code → IsScriptFault ms ss line column fault → IsScriptFaultOver code ss line column fault
fault_over_code ms ss code line column fault stands h =
    subst (λ (k : Known). IsFaultOver k ss line column fault) (known_once ms h.over stands.file ∙ sym (known_over_code ms code stands)) h.fault_is

pub means_module : (ms : List ℕ) (code : RawCode) → StandsFor ms code → MeansModule ms code
means_module ms code stands = record {
  file = stands.file;
  known = known_over_code ms code stands;
  fault_over_code = λ ss line column fault h. fault_over_code ms ss code line column fault stands h;
  fault_over_file = λ ss line column fault h. fault_over ms ss code line column fault stands h;
  runs = λ ss commands is. runs_over ms ss code commands stands is;
}
