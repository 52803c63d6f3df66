use Rattle.std.proofs.Common.{◌≡◌, ◌≤◌, ◌++◌, length}
use Rattle.std.specs.Vec.{vec_capacity}
use Rattle.psm_table.specs.Runs.{most_pairs}
use Rattle.psm_table.proofs.run.Run.cut.Given as goal

abbrev pub invariant-loop-self : goal.invariant-loop-self
invariant-loop-self g l =
    (l.initial.self-inside.pairs.items ≡ l.self-inside.pairs.items ++ l.upper-inside.pairs.items)
    × (l.kept ≤ length l.self-inside.pairs.items)
    × (most_pairs ≤ vec_capacity l.self-inside.pairs)
    × (most_pairs ≤ vec_capacity l.upper-inside.pairs)
    × (l.self-inside.head ≡ l.initial.self-inside.head)

abbrev pub decreases-loop-self : goal.decreases-loop-self
decreases-loop-self g l = length l.self-inside.pairs.items
