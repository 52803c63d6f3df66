use Rattle.psm_code_session.proofs.Scripts.{script_ends, script_session, script_session_once}
use Rattle.psm_code_session.proofs.laws.scripts_over_well_formed_code_have_one_session.Goals as goal

pub returns : goal.returns
returns c = record {
  exists = λ code well_formed_code ss commands is turns. script_session code well_formed_code ss commands is turns;
  unique = λ code well_formed_code ss turns u v. script_session_once code well_formed_code ss turns u v;
  ends = script_ends;
}
