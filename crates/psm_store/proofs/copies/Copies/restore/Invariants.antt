use Rattle.std.proofs.Common.{◌≡◌, ◌+◌, ◌++◌, length, take, replicate}
use Rattle.psm_store.proofs.copies.Copies.restore.Given as goal

abbrev pub invariant-loop-self : goal.invariant-loop-self
invariant-loop-self l =
    take (l.depth + 1) (l.self ++ replicate (l.depth + 1) l.tables) ≡
    take (l.depth + 1) (l.initial.self ++ replicate (l.depth + 1) l.initial.tables)

abbrev pub decreases-loop-self : goal.decreases-loop-self
decreases-loop-self l = length l.self
