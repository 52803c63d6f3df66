use Rattle.std.proofs.Common.{drop}
use Rattle.psm_codegen.specs.FunctionBuilder.{FunctionBuilder}
use Rattle.psm_codegen.specs.Statements.{WritesCursors}
use Rattle.psm_codegen.proofs.steps.cursors.Given as goal

abbrev pub invariant-loop-x : goal.invariant-loop-x
invariant-loop-x l = (q : FunctionBuilder) → WritesCursors l.emit_context.known.now (drop l.x-index l.x-items) l.parts q → WritesCursors l.emit_context.known.now l.list l.fn.parts q
