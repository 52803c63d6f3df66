use Rattle.std.proofs.Common.{◌≡◌, map, take}
use Rattle.psm_build.proofs.tables.definitions_in.Given as goal

abbrev pub invariant-loop-table : goal.invariant-loop-table
invariant-loop-table l = l.defs.items ≡ map (λ t. t.definition) (take l.table-index l.tables)
