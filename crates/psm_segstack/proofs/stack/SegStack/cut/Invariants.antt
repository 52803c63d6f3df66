use Rattle.std.proofs.Common.{◌≡◌, ◌+◌, length, take}
use Rattle.psm_segstack.proofs.stack.SegStack.cut.Given as goal

abbrev pub invariant-loop-self : goal.invariant-loop-self
invariant-loop-self g l =
    (take l.len l.self.items ≡ take l.len l.initial.self.items)
    × (length l.self.items + l.self.spare ≡ length l.initial.self.items + l.initial.self.spare)

abbrev pub decreases-loop-self : goal.decreases-loop-self
decreases-loop-self g l = length l.self.items
