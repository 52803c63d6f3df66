use Rattle.std.proofs.Common.{◌∙◌, ◌+◌, ap, length}
use Rattle.psm_exprcode.proofs.Sharing.{put_number, put_earlier, put_stacks}
use Rattle.psm_exprcode.proofs.stacks.Stacks.put.Goals as goal

pub invariant_of-self-2 : goal.invariant_of-self-2
invariant_of-self-2 c = put_earlier c.args.self.now c.self.inside.nodes.items c.push.new.self.items (record { letter = c.args.letter; below = c.args.below }) c.self.view_is c.self.invariant c.in_ok-push.ensures.items c.requires

pub returns-clause-number : goal.returns-clause-number
returns-clause-number c = (
  ap (λ nodes. 4 + length nodes) c.as_slice.ensures.value ∙ put_number c.args.self.now c.self.inside.nodes.items c.self.view_is,
  put_stacks c.args.self.now c.self.inside.nodes.items c.push.new.self.items (record { letter = c.args.letter; below = c.args.below }) c.self.view_is c.in_ok-push.ensures.items,
)
