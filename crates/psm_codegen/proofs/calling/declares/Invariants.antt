use Rattle.std.proofs.Common.{drop}
use Rattle.psm_exprgen.specs.Labels.{Drafted}
use Rattle.psm_exprgen.specs.Written.{Written}
use Rattle.psm_codegen.specs.Simples.{Declares}
use Rattle.psm_codegen.proofs.calling.declares.Given as goal

abbrev pub invariant-loop-declaration : goal.invariant-loop-declaration
invariant-loop-declaration l = Drafted (λ σ p q. (v : Written) → Declares l.emit_context.known.now l.emit_context.context (σ l.emit_context.resume) (drop l.declaration-index l.declaration-items) q v → Declares l.emit_context.known.now l.emit_context.context (σ l.emit_context.resume) l.list p v) l.fn.out l.out
