use Rattle.std.proofs.Common.{◌≡◌, ◌++◌, ◌∷◌, [], drop}
use Rattle.psm_codegen.specs.Simples.{condition_items}
use Rattle.psm_codegen.proofs.diagnostics.condition_items.Given as goal

abbrev pub invariant-loop-slot : goal.invariant-loop-slot
invariant-loop-slot l = condition_items l.emit_context.context l.emit_context.resume l.area l.items l.fn.out ≡ condition_items l.emit_context.context l.emit_context.resume l.area (drop l.slot-index l.others ++ l.last ∷ []) l.out
