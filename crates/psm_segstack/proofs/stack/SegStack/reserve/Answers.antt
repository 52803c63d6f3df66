use Rattle.psm_segstack.proofs.Stacks.{grown_room}
use Rattle.psm_segstack.proofs.stack.SegStack.reserve.Goals as goal

pub returns-clause-room : goal.returns-clause-room
returns-clause-room g c =
    grown_room c.self.inside.segments.items c.push.new.self.items c.self.inside.len c.in_ok-new.field-0 c.self.invariant.0 c.in_ok-push.ensures.items
