use Rattle.std.proofs.Common.{rules, ◌∙◌, ap, reverse, ◌-◌, slice_set}
use Rattle.psm_exprcode.proofs.OnTop.{on_top}
use Rattle.psm_exprcode.proofs.stack.put_for_two.Goals as goal

pub returns : goal.returns
returns c =
    ap (λ k. reverse (slice_set c.pop.new.operands.items (k - 1) c.args.operand)) (search rules)
    ∙ on_top c.args.operands.now.items c.pop.new.operands.items c.pop.result c.args.operand c.pop.ensures (search rules)
