use Rattle.std.proofs.Common.{rules, ap, reverse, subst, ◌∙◌, ◌∷◌, ◌≡◌, IfSome}
use Rattle.psm_operands.specs.Stacked.{above, below}
use Rattle.psm_operands.proofs.Levels.{popped}
use Rattle.psm_operands.proofs.stack.OperandStack.pop.Goals as goal

pub returns-then-len-base_of-clause-some : goal.returns-then-len-base_of-clause-some
returns-then-len-base_of-clause-some c =
    let bases = reverse c.self.inside.bases.items in
    subst (λ v. IfSome c.pop.result (λ o. v.own ≡ o ∷ above (below bases) (reverse c.pop.new.self.items))) c.self.view_is
    (popped bases c.self.inside.operands.items c.pop.new.self.items c.pop.result c.self.invariant (search rules) c.pop.ensures.items).own

pub returns-then-len-base_of-clause-callers : goal.returns-then-len-base_of-clause-callers
returns-then-len-base_of-clause-callers c =
    (popped (reverse c.self.inside.bases.items) c.self.inside.operands.items c.pop.new.self.items c.pop.result c.self.invariant (search rules) c.pop.ensures.items).same
    ∙ ap (λ v. v.callers) c.self.view_is
