use Rattle.psm_meaning.proofs.GrowingSession.{same-session}
use Rattle.psm_meaning.proofs.GrowingStatements.{fits-above}
use Rattle.psm_meaning.proofs.laws.more_fuel_changes_nothing.Goals as goal

pub returns : goal.returns
returns c = record { parts = fits-above; sessions = same-session }
