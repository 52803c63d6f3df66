use Rattle.std.proofs.Common.{◌≡◌, ◌≤◌, take}
use Rattle.std.specs.Vec.{vec_capacity}
use Rattle.psm_table.specs.Runs.{most_pairs}
use Rattle.psm_table.proofs.run.Run.copy.Given as goal

abbrev pub invariant-loop-pair : goal.invariant-loop-pair
invariant-loop-pair g l = (l.pairs.items ≡ take l.pair-index l.self) × (most_pairs ≤ vec_capacity l.pairs)
