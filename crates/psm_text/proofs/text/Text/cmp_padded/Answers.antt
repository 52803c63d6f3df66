use Rattle.std.proofs.Common.{arith, sym, ◌∙◌}
use Rattle.psm_text.proofs.Orders.{order_goes, order_decided}
use Rattle.psm_text.proofs.text.Text.cmp_padded.Goals as goal

pub loop-left-preserved : goal.loop-left-preserved
loop-left-preserved c =
    order_goes c.args.self.now c.args.other.now c.loop-left.left.now c.loop-left.right.now c.rest-left.result.now c.rest-right.result.now
    c.first_or_blank.result c.first_or_blank-in-loop-left.result c.loop-left.invariant (omega arith)
    c.first_or_blank.ensures c.first_or_blank-in-loop-left.ensures (sym c.in-Equal.is ∙ c.cmp.ensures) c.rest-left.ensures c.rest-right.ensures

pub returns-in_default : goal.returns-in_default
returns-in_default c =
    order_decided c.args.self.now c.args.other.now c.loop-left.left.now c.loop-left.right.now
    c.first_or_blank.result c.first_or_blank-in-loop-left.result c.cmp.result c.loop-left.invariant (omega arith)
    c.first_or_blank.ensures c.first_or_blank-in-loop-left.ensures c.cmp.ensures c.in_default.not-Equal
