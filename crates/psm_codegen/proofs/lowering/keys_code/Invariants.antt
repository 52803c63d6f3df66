use Rattle.std.proofs.Common.{◌≡◌, take}
use Rattle.psm_codegen.proofs.lowering.keys_code.Given as goal

abbrev pub invariant-loop-key : goal.invariant-loop-key
invariant-loop-key l = l.copy.items ≡ take l.key-index l.keys
