use Rattle.std.proofs.Common.{rules, arith}
use Rattle.std.proofs.lemmas.Int.{to_z-of_z}
use Rattle.psm_num.proofs.Quotients.{divided_is}
use Rattle.psm_num.proofs.dec.Dec.div.Goals as goal

pub returns : goal.returns
returns c = divided_is c.args.self c.args.other c.max-scale.result c.raised.result c.cut.result c.bounded.result
    (search rules) (search rules) (grind (arith, to_z-of_z)) (grind (arith, to_z-of_z)) (grind (arith, to_z-of_z))
