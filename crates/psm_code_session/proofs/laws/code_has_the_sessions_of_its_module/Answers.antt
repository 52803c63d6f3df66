use Rattle.psm_code_session.proofs.ModuleSessions.{over_code, over_file}
use Rattle.psm_code_session.proofs.laws.code_has_the_sessions_of_its_module.Goals as goal

pub returns : goal.returns
returns c = record {
  of_file = λ ms ss code stands turns u h. over_file ms ss code stands turns u h;
  of_code = λ ms ss code stands turns u h. over_code ms ss code stands turns u h;
}
