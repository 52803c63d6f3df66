use Rattle.std.proofs.Common.{◌≡◌, ◌≤◌, ◌++◌, length, take, drop}
use Rattle.std.specs.Prelude.{filter}
use Rattle.std.specs.Vec.{vec_capacity}
use Rattle.psm_table.specs.Runs.{most_pairs}
use Rattle.psm_table.proofs.run.Run.retain.Given as goal

abbrev pub invariant-loop-left : goal.invariant-loop-left
invariant-loop-left g l =
    (l.left ≤ length l.initial.self-inside.pairs.items)
    × (l.self-inside.pairs.items ≡ take l.left l.initial.self-inside.pairs.items ++ filter (g.T.Test.passes l.test) (drop l.left l.initial.self-inside.pairs.items))
    × (length l.self-inside.pairs.items ≤ most_pairs)
    × (most_pairs ≤ vec_capacity l.self-inside.pairs)

abbrev pub decreases-loop-left : goal.decreases-loop-left
decreases-loop-left g l = l.left
