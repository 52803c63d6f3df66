use Rattle.psm_code.proofs.NeverStuck.{step_well_formed, run_well_formed, starts}
use Rattle.psm_code.proofs.laws.well_formed_code_never_gets_stuck.Goals as goal

pub returns : goal.returns
returns c = record {
  kept = step_well_formed;
  start = λ code well_formed_code n r there args tables turns long k. starts code well_formed_code n r there args tables turns long k;
  run = run_well_formed;
}
