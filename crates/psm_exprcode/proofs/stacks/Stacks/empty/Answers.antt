use Rattle.std.proofs.Common.{arith, refl}
use Rattle.psm_exprcode.proofs.Sharing.{first_there, first_stack}
use Rattle.psm_exprcode.proofs.stacks.Stacks.empty.Goals as goal

pub returns-clause-there : goal.returns-clause-there
returns-clause-there c = first_there c.args.self.now c.self.inside.nodes.items 0 c.self.view_is (omega arith)

pub returns-clause-empty : goal.returns-clause-empty
returns-clause-empty c = first_stack c.args.self.now c.self.inside.nodes.items 0 0 c.self.view_is refl (omega arith)
