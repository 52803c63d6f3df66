use Rattle.std.proofs.Common.{◌≡◌, length, take}
use Rattle.psm_store.proofs.copies.Copies.truncate.Given as goal

abbrev pub invariant-loop-self : goal.invariant-loop-self
invariant-loop-self l = take l.marks l.self ≡ take l.marks l.initial.self

abbrev pub decreases-loop-self : goal.decreases-loop-self
decreases-loop-self l = length l.self
