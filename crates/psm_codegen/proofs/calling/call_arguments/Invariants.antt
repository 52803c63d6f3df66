use Rattle.std.proofs.Common.{drop, ◌≤◌}
use Rattle.psm_exprgen.specs.Labels.{Drafted}
use Rattle.psm_exprgen.specs.Written.{Written}
use Rattle.psm_codegen.specs.Simples.{CallArguments}
use Rattle.psm_codegen.proofs.calling.call_arguments.Given as goal

abbrev pub invariant-loop-argument : goal.invariant-loop-argument
invariant-loop-argument l = record {
  near : l.index ≤ l.argument-index;
  written : Drafted (λ σ p q. (v : Written) → CallArguments l.emit_context.known.now l.emit_context.context (σ l.emit_context.resume) l.letters l.index (drop l.argument-index l.argument-items) q v → CallArguments l.emit_context.known.now l.emit_context.context (σ l.emit_context.resume) l.letters 0 l.list p v) l.fn.out l.out;
}
