use Rattle.psm_load.proofs.OneThing.{no_fault, one_code, one_fault, one_thing}
use Rattle.psm_load.proofs.laws.texts_are_one_thing.Goals as goal

pub returns : goal.returns
returns c = record { code = one_code; exclusive = no_fault; fault = one_fault; total = one_thing }
