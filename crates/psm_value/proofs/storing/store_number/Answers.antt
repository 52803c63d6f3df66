use Rattle.psm_value.proofs.Ranges.{out_of_range}
use Rattle.psm_value.proofs.storing.store_number.Goals as goal

pub returns-in-Err : goal.returns-in-Err
returns-in-Err c = out_of_range c.args.to c.args.number c.scale.result c.in-Err.field-0 c.requires c.scale.ensures.value c.in-Err.ensures
