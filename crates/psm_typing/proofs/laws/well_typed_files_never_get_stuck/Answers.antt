use Rattle.psm_typing.proofs.Scripting.{activation-well_typed, procedure-well_typed, session-well_typed, statement-well_typed, value-well_typed}
use Rattle.psm_typing.proofs.laws.well_typed_files_never_get_stuck.Goals as goal

pub returns : goal.returns
returns c = record { values = value-well_typed; statements = statement-well_typed; activations = activation-well_typed; procedures = procedure-well_typed; sessions = session-well_typed }
