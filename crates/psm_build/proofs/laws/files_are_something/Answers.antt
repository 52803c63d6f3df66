use Rattle.std.proofs.Common.{refl}
use Rattle.psm_build.specs.Program.{session_of}
use Rattle.psm_build.proofs.Total.{module_total, script_total}
use Rattle.psm_build.proofs.laws.files_are_something.Goals as goal

pub returns : goal.returns
returns c = record {
  modules = module_total;
  scripts = script_total;
  sessions = λ ms ss turns script. (session_of script turns, record { script = script; session_is = refl });
}
