use Rattle.std.proofs.Common.{◌≡◌, drop}
use Rattle.psm_code.specs.declared.instruction.Instruction.TheVariants as instruction
use Rattle.psm_simulation.specs.Scheme.{slots_given}
use Rattle.psm_codegen.specs.Simples.{stored}
use Rattle.psm_codegen.proofs.storing.gives.Given as goal

abbrev pub invariant-loop-argument : goal.invariant-loop-argument
invariant-loop-argument l = stored l.emit_context.context l.emit_context.resume (λ slot. instruction.Store slot) (slots_given l.arguments) l.fn.out ≡ stored l.emit_context.context l.emit_context.resume (λ slot. instruction.Store slot) (slots_given (drop l.argument-index l.argument-items)) l.out
