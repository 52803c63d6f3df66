use Rattle.psm_code_session.proofs.Sessions.{session_exists, session_unique}
use Rattle.psm_code_session.proofs.laws.commands_that_fit_have_one_session.Goals as goal

pub returns : goal.returns
returns c = record {
  exists = λ code well_formed_code commands fits s tables committed. session_exists code well_formed_code commands fits s (record { tables = tables; committed = committed });
  unique = session_unique;
}
