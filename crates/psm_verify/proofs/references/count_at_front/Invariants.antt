use Rattle.std.proofs.Common.{◌≡◌, ◌+◌, drop}
use Rattle.psm_verify.specs.InTurn.{count_of}
use Rattle.psm_verify.proofs.references.count_at_front.Given as goal

abbrev pub invariant-loop-key : goal.invariant-loop-key
invariant-loop-key l = (l.count ≡ l.key-index) × (count_of l.table l.keys ≡ l.key-index + count_of l.table (drop l.key-index l.keys))
