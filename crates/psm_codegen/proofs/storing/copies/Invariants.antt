use Rattle.std.proofs.Common.{◌≡◌, ◌++◌, ◌∷◌, [], drop}
use Rattle.psm_codegen.specs.Simples.{copied}
use Rattle.psm_codegen.proofs.storing.copies.Given as goal

abbrev pub invariant-loop-slot : goal.invariant-loop-slot
invariant-loop-slot l = copied l.emit_context.context l.emit_context.resume l.slots l.fn.out ≡ copied l.emit_context.context l.emit_context.resume (drop l.slot-index l.others ++ l.last ∷ []) l.out
