use Rattle.std.proofs.Common.{◌∙◌, ◌≡◌, ◌<◌, ◌-◌, ap, true, length, arith, rules, refl}
use Rattle.psm_exprcode.specs.declared.op.Letter.TheVariants.{N, T, B}
use Rattle.psm_exprcode.specs.Stacks.{first_stacks, stacks_with, are_on_earlier}
use Rattle.psm_exprcode.proofs.Sharing.{first_stack, first_single, node_there, node_at}
use Rattle.psm_exprcode.proofs.stacks.Stacks.split.Goals as goal

pub returns-in-0-clause-parts : goal.returns-in-0-clause-parts
returns-in-0-clause-parts c = first_stack c.args.self.now c.self.inside.nodes.items c.args.number 0 c.self.view_is c.in-0.is (omega arith)

pub returns-in-1-clause-parts : goal.returns-in-1-clause-parts
returns-in-1-clause-parts c = first_single c.args.self.now c.self.inside.nodes.items c.args.number 1 N c.self.view_is c.in-1.is (omega arith) refl

pub returns-in-2-clause-parts : goal.returns-in-2-clause-parts
returns-in-2-clause-parts c = first_single c.args.self.now c.self.inside.nodes.items c.args.number 2 T c.self.view_is c.in-2.is (omega arith) refl

pub returns-in-3-clause-parts : goal.returns-in-3-clause-parts
returns-in-3-clause-parts c = first_single c.args.self.now c.self.inside.nodes.items c.args.number 3 B c.self.view_is c.in-3.is (omega arith) refl

pub bounds-nodes-number : goal.bounds-nodes-number
bounds-nodes-number c =
    let view = ap (stacks_with first_stacks) c.as_slice-nodes.ensures.value ∙ c.self.view_is in
    node_there c.args.self.now c.as_slice-nodes.result.now c.args.number view (omega arith) c.requires

pub offset_bounds-nodes-number : goal.offset_bounds-nodes-number
offset_bounds-nodes-number c =
    let view = ap (stacks_with first_stacks) c.as_slice-nodes.ensures.value ∙ c.self.view_is in
    let there : c.args.number - 4 < length c.as_slice-nodes.result.now = node_there c.args.self.now c.as_slice-nodes.result.now c.args.number view (omega arith) c.requires in
    search rules

pub returns-in_default-clause-parts : goal.returns-in_default-clause-parts
returns-in_default-clause-parts c =
    let view = ap (stacks_with first_stacks) c.as_slice-nodes.ensures.value ∙ c.self.view_is in
    let on_earlier : are_on_earlier 4 c.as_slice-nodes.result.now ≡ true = ap (are_on_earlier 4) c.as_slice-nodes.ensures.value ∙ c.self.invariant in
    (node_at c.args.self.now c.as_slice-nodes.result.now c.args.number (record { letter = N; below = 0 }) view on_earlier (omega arith) c.requires).parts

pub returns-in_default-clause-earlier : goal.returns-in_default-clause-earlier
returns-in_default-clause-earlier c =
    let view = ap (stacks_with first_stacks) c.as_slice-nodes.ensures.value ∙ c.self.view_is in
    let on_earlier : are_on_earlier 4 c.as_slice-nodes.result.now ≡ true = ap (are_on_earlier 4) c.as_slice-nodes.ensures.value ∙ c.self.invariant in
    (node_at c.args.self.now c.as_slice-nodes.result.now c.args.number (record { letter = N; below = 0 }) view on_earlier (omega arith) c.requires).earlier
