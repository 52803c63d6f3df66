use Rattle.psm_operands.proofs.Framing.{done, fits}
use Rattle.psm_operands.proofs.stack.OperandStack.apply.Goals as goal

pub apply-requires : goal.apply-requires
apply-requires c = fits c.args.op.now c.args.row.now c.args.vars.now c.self.inside.bases.items c.self.inside.operands.items c.args.self.now c.self.view_is c.self.invariant c.requires

pub invariant_of-self : goal.invariant_of-self
invariant_of-self c =
    (done c.args.op.now c.args.row.now c.args.vars.now c.self.inside.bases.items c.self.inside.operands.items c.args.self.now c.self.view_is c.self.invariant c.requires c.apply.result c.apply.new.operands.items c.apply.ensures).falls_now

pub returns-clause-expected : goal.returns-clause-expected
returns-clause-expected c =
    (done c.args.op.now c.args.row.now c.args.vars.now c.self.inside.bases.items c.self.inside.operands.items c.args.self.now c.self.view_is c.self.invariant c.requires c.apply.result c.apply.new.operands.items c.apply.ensures).expected

pub returns-clause-callers : goal.returns-clause-callers
returns-clause-callers c =
    (done c.args.op.now c.args.row.now c.args.vars.now c.self.inside.bases.items c.self.inside.operands.items c.args.self.now c.self.view_is c.self.invariant c.requires c.apply.result c.apply.new.operands.items c.apply.ensures).same
