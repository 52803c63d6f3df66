use Rattle.std.proofs.Common.{◌≡◌, take}
use Rattle.psm_table.specs.Held.{entries_of}
use Rattle.psm_table.proofs.table.copied_indexes.Given as goal

abbrev pub invariant-loop-index : goal.invariant-loop-index
invariant-loop-index l = entries_of l.copy.items ≡ take l.index-index (entries_of l.indexes)
