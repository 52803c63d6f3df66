use Rattle.std.proofs.Common.{◌≡◌, drop}
use Rattle.psm_table.specs.Key.{key_order}
use Rattle.psm_table.proofs.key.compare.Given as goal

abbrev pub invariant-loop-i : goal.invariant-loop-i
invariant-loop-i l = key_order l.a l.b ≡ key_order (drop l.i l.a) (drop l.i l.b)
