use Rattle.psm_value.proofs.Literals.{read_is}
use Rattle.psm_value.proofs.casting.read.Goals as goal

pub returns : goal.returns
returns c = read_is c.args.digits.now c.read.result c.read.ensures.ok c.read.ensures.range c.read.ensures.not_number c.read.ensures.no_other c.read.ensures.exact
