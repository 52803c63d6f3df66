use Rattle.std.proofs.Common.{◌||◌, nat_eq, arith}
use Rattle.psm_cond.proofs.Fronts.{after_is}
use Rattle.psm_cond.proofs.condition.Condition.following.Goals as goal

pub returns : goal.returns
returns c = after_is c.args.entry c.args.self c.of.result (c.self.inside.more || nat_eq c.len-full.result 3) (grind arith) (grind arith) (grind arith)
