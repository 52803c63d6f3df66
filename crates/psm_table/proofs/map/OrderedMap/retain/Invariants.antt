use Rattle.std.proofs.Common.{◌≡◌, ◌≤◌, length, take, drop, false, []}
use Rattle.std.specs.Prelude.{All, IfSome, filter}
use Rattle.psm_table.specs.Runs.{joined, IsRun}
use Rattle.psm_table.proofs.map.OrderedMap.retain.Given as goal

abbrev pub invariant-loop-left : goal.invariant-loop-left
invariant-loop-left g l =
    (l.left ≤ length l.self-inside.runs.items)
    × (l.left ≤ length l.initial.self-inside.runs.items)
    × (take l.left l.self-inside.runs.items ≡ take l.left l.initial.self-inside.runs.items)
    × (joined (drop l.left l.self-inside.runs.items) ≡ filter (g.T.Test.passes l.test) (joined (drop l.left l.initial.self-inside.runs.items)))
    × All IsRun l.self-inside.runs.items
    × IfSome l.self-inside.spare (λ r. r ≡ [])
    × (l.self-inside.ready ≡ false)

abbrev pub decreases-loop-left : goal.decreases-loop-left
decreases-loop-left g l = l.left
