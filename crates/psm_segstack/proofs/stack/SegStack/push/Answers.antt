use Rattle.psm_segstack.proofs.Stacks.{next_within, pushed}
use Rattle.psm_segstack.proofs.stack.SegStack.push.Goals as goal

pub returns : goal.returns
returns g c =
    pushed c.self.inside.segments.items c.self.inside.len c.args.self.now c.index_mut.result.now c.push.new.self c.args.value c.self.invariant.0
    (next_within c.self.inside.segments.items c.self.inside.len c.args.self.now c.self.view_is c.requires)
    c.self.view_is c.index_mut.ensures.value c.push.ensures
