use Rattle.psm_meaning.proofs.EnoughSession.{activation-enough, one-session, session-enough, statement-enough, value-enough}
use Rattle.psm_meaning.proofs.laws.fuel_of_a_file_is_enough.Goals as goal

pub returns : goal.returns
returns c = record { values = value-enough; statements = statement-enough; activations = activation-enough; sessions = session-enough; one_session = one-session }
