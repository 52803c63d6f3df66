use Rattle.std.proofs.Common.{ap, reverse, ◌∷◌, ◌∙◌}
use Rattle.psm_operands.proofs.Levels.{pushed}
use Rattle.psm_operands.proofs.stack.OperandStack.push.Goals as goal

pub returns-clause-ok : goal.returns-clause-ok
returns-clause-ok c =
    (pushed (reverse c.self.inside.bases.items) c.self.inside.operands.items c.push.new.self.items c.args.operand c.self.invariant c.in_ok-push.ensures.items).is_own
    ∙ ap (λ v. c.args.operand ∷ v.own) c.self.view_is

pub returns-clause-callers : goal.returns-clause-callers
returns-clause-callers c =
    (pushed (reverse c.self.inside.bases.items) c.self.inside.operands.items c.push.new.self.items c.args.operand c.self.invariant c.in_ok-push.ensures.items).same
    ∙ ap (λ v. v.callers) c.self.view_is
