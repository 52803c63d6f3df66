use Rattle.std.proofs.Common.{◌≡◌, take}
use Rattle.psm_table.proofs.map.OrderedMap.copy.Given as goal

abbrev pub invariant-loop-run : goal.invariant-loop-run
invariant-loop-run g l = l.runs.items ≡ take l.run-index l.run-items
