use Rattle.std.proofs.Common.{sym, ◌∙◌, arith}
use Rattle.psm_table.proofs.Orders.{key_order-end}
use Rattle.psm_table.proofs.key.compare.Goals as goal

pub returns : goal.returns
returns c =
    c.cmp.ensures ∙ sym (c.loop-i.invariant ∙ key_order-end c.args.a.now c.args.b.now c.loop-i.i (omega arith))
