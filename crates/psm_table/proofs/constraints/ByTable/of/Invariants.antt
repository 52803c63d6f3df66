use Rattle.std.proofs.Common.{take}
use Rattle.psm_table.specs.Constraints.{AreFound}
use Rattle.psm_table.proofs.constraints.ByTable.of.Given as goal

abbrev pub invariant-loop-key : goal.invariant-loop-key
invariant-loop-key l = AreFound l.kept (take l.key-index l.keys)
