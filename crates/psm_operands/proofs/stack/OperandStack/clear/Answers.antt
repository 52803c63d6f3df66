use Rattle.std.proofs.Common.{rules, ap, reverse, take, [], ◌∙◌}
use Rattle.psm_operands.specs.Stacked.{callers_of}
use Rattle.psm_operands.proofs.Levels.{cleared}
use Rattle.psm_operands.proofs.stack.OperandStack.clear.Goals as goal

pub returns : goal.returns
returns c =
    let bases = reverse c.self.inside.bases.items in
    let o = cleared bases c.self.inside.operands.items c.truncate.new.self.items c.self.invariant (c.truncate.ensures.items ∙ ap (λ n. take n c.self.inside.operands.items) (search rules)) in
    ap (λ own. record { own = own; callers = callers_of bases (reverse c.truncate.new.self.items) }) o.is_own
    ∙ ap (λ callers. record { own = []; callers = callers }) (o.same ∙ ap (λ v. v.callers) c.self.view_is)
