use Rattle.psm_load.proofs.NumberedHandlers.{numbered_handlers}
use Rattle.psm_load.proofs.laws.objects_have_numbered_handlers.Goals as goal

pub returns : goal.returns
returns c = λ text code object. numbered_handlers code.routines object.listed.routines
