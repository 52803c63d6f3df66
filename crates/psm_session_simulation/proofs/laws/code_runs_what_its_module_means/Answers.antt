use Rattle.psm_session_simulation.proofs.Scripts.{command-runs, commands-run, script-begun, script-cut, script-done}
use Rattle.psm_session_simulation.proofs.laws.code_runs_what_its_module_means.Goals as goal

pub returns : goal.returns
returns c = record {
  command = command-runs;
  commands = commands-run;
  done = λ file code stands well_typed cs ds q turns pieces t g. script-done file code stands well_typed cs ds q turns pieces t g;
  cut = λ file code stands well_typed cs ds q turns first d later e pieces t piece g stops. script-cut file code stands well_typed cs ds q turns first d later e pieces t piece g stops;
  begun = λ file code stands well_typed cs ds q turns first later e pieces t g. script-begun file code stands well_typed cs ds q turns first later e pieces t g;
}
