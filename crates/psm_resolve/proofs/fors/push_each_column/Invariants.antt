use Rattle.std.proofs.Common.{◌≡◌, ◌++◌, drop, map}
use Rattle.psm_resolve.specs.Seen.{item_seen}
use Rattle.psm_resolve.specs.Blocks.{column_items}
use Rattle.psm_resolve.proofs.fors.push_each_column.Given as goal

abbrev pub invariant-loop-place : goal.invariant-loop-place
invariant-loop-place l = map item_seen l.items.items ++ column_items (drop l.place l.columns) ≡ map item_seen l.fn.items.items ++ column_items l.columns
