use Rattle.std.proofs.Common.{ap, drop, ◌∙◌}
use Rattle.psm_operands.specs.Stacked.{first_of}
use Rattle.psm_operands.proofs.Levels.{ended}
use Rattle.psm_operands.proofs.stack.OperandStack.end.Goals as goal

pub returns-in-Some : goal.returns-in-Some
returns-in-Some c =
    (ended c.self.inside.bases.items c.pop.new.self.items c.in-Some.base c.self.inside.operands.items c.truncate.new.self.items c.in-Some.ensures.items c.truncate.ensures.items c.self.invariant).0
    ∙ ap (λ v. record { own = first_of v.callers; callers = drop 1 v.callers }) c.self.view_is
