use Rattle.std.proofs.Common.{◌≡◌, ◌++◌, [], drop, map}
use Rattle.psm_print.specs.Spelling.{each}
use Rattle.psm_print.specs.FileTokens.{characteristic_tokens}
use Rattle.psm_print.proofs.files.characteristics.Given as goal

abbrev pub invariant-loop-next : goal.invariant-loop-next
invariant-loop-next l = l.out ++ each [] (map characteristic_tokens (drop l.next-index l.next-items)) ≡ l.fn.out ++ each [] (map characteristic_tokens l.characteristics)
