use Rattle.std.proofs.Common.{◌∙◌, sym, ap, ◌∷◌, [], arith, refl}
use Rattle.psm_exprcode.proofs.Sharing.{first_there, first_stack}
use Rattle.psm_exprcode.proofs.stacks.Stacks.single.Goals as goal

pub returns-in-N-clause-there : goal.returns-in-N-clause-there
returns-in-N-clause-there c = first_there c.args.self.now c.self.inside.nodes.items 1 c.self.view_is (omega arith)

pub returns-in-N-clause-single : goal.returns-in-N-clause-single
returns-in-N-clause-single c = first_stack c.args.self.now c.self.inside.nodes.items 1 1 c.self.view_is refl (omega arith) ∙ ap (λ l. l ∷ []) (sym c.in-N.is)

pub returns-in-T-clause-there : goal.returns-in-T-clause-there
returns-in-T-clause-there c = first_there c.args.self.now c.self.inside.nodes.items 2 c.self.view_is (omega arith)

pub returns-in-T-clause-single : goal.returns-in-T-clause-single
returns-in-T-clause-single c = first_stack c.args.self.now c.self.inside.nodes.items 2 2 c.self.view_is refl (omega arith) ∙ ap (λ l. l ∷ []) (sym c.in-T.is)

pub returns-in-B-clause-there : goal.returns-in-B-clause-there
returns-in-B-clause-there c = first_there c.args.self.now c.self.inside.nodes.items 3 c.self.view_is (omega arith)

pub returns-in-B-clause-single : goal.returns-in-B-clause-single
returns-in-B-clause-single c = first_stack c.args.self.now c.self.inside.nodes.items 3 3 c.self.view_is refl (omega arith) ∙ ap (λ l. l ∷ []) (sym c.in-B.is)
