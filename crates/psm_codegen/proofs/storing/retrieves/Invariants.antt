use Rattle.std.proofs.Common.{◌≡◌, drop}
use Rattle.psm_code.specs.declared.instruction.Instruction.TheVariants as instruction
use Rattle.psm_codegen.specs.Simples.{stored}
use Rattle.psm_codegen.proofs.storing.retrieves.Given as goal

abbrev pub invariant-loop-slot : goal.invariant-loop-slot
invariant-loop-slot l = stored l.emit_context.context l.emit_context.resume (λ slot. instruction.FetchStore slot) l.slots l.fn.out ≡ stored l.emit_context.context l.emit_context.resume (λ slot. instruction.FetchStore slot) (drop l.slot-index l.slot-items) l.out
