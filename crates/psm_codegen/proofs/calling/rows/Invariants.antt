use Rattle.std.proofs.Common.{drop}
use Rattle.psm_exprgen.specs.Labels.{Drafted}
use Rattle.psm_exprgen.specs.Written.{Written}
use Rattle.psm_codegen.specs.Simples.{WritesRows}
use Rattle.psm_codegen.proofs.calling.rows.Given as goal

abbrev pub invariant-loop-row : goal.invariant-loop-row
invariant-loop-row l = Drafted (λ σ p q. (v : Written) → WritesRows l.emit_context.known.now l.emit_context.context (σ l.emit_context.resume) l.letters (drop l.row-index l.row-items) q v → WritesRows l.emit_context.known.now l.emit_context.context (σ l.emit_context.resume) l.letters l.list p v) l.fn.out l.out
