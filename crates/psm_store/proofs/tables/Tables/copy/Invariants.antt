use Rattle.std.proofs.Common.{◌≡◌, take}
use Rattle.psm_store.specs.Kept.{contents_of}
use Rattle.psm_store.proofs.tables.Tables.copy.Given as goal

abbrev pub invariant-loop-table : goal.invariant-loop-table
invariant-loop-table l = contents_of l.tables.items ≡ take l.table-index l.self
