use Rattle.std.proofs.Common.{drop, map}
use Rattle.psm_codegen.specs.FunctionBuilder.{FunctionBuilder}
use Rattle.psm_codegen.specs.Labels.{DraftedParts, patched_block}
use Rattle.psm_codegen.specs.Statements.{WritesBranches, WritesComparisons, WritesHandlers, WritesStatements}
use Rattle.psm_codegen.proofs.statements.+stating.Given as goal

abbrev pub invariant-statements-loop-s : goal.invariant-statements-loop-s
invariant-statements-loop-s l = DraftedParts (λ σ p q. (r : FunctionBuilder) → WritesStatements l.emit_context.known.now l.emit_context.context (map (patched_block σ) l.enclosing) (drop l.s-index l.s-items) q r → WritesStatements l.emit_context.known.now l.emit_context.context (map (patched_block σ) l.enclosing) l.list p r) l.fn.parts l.parts

abbrev pub invariant-branches-loop-x : goal.invariant-branches-loop-x
invariant-branches-loop-x l = DraftedParts (λ σ p q. (r : FunctionBuilder) → WritesBranches l.emit_context.known.now l.emit_context.context (map (patched_block σ) l.enclosing) (σ l.emit_context.resume) (drop l.x-index l.x-items) q r → WritesBranches l.emit_context.known.now l.emit_context.context (map (patched_block σ) l.enclosing) (σ l.emit_context.resume) l.list p r) l.fn.parts l.parts

abbrev pub invariant-comparisons-loop-x : goal.invariant-comparisons-loop-x
invariant-comparisons-loop-x l = DraftedParts (λ σ p q. (r : FunctionBuilder) → WritesComparisons l.emit_context.known.now l.emit_context.context (map (patched_block σ) l.enclosing) (σ l.emit_context.resume) (drop l.x-index l.x-items) q r → WritesComparisons l.emit_context.known.now l.emit_context.context (map (patched_block σ) l.enclosing) (σ l.emit_context.resume) l.list p r) l.fn.parts l.parts

abbrev pub invariant-handlers-loop-h : goal.invariant-handlers-loop-h
invariant-handlers-loop-h l = DraftedParts (λ σ p q. (r : FunctionBuilder) → WritesHandlers l.emit_context.known.now l.emit_context.context (drop l.h-index l.h-items) q r → WritesHandlers l.emit_context.known.now l.emit_context.context l.list p r) l.fn.parts l.parts
