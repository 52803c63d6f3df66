use Rattle.std.proofs.Common.{◌≡◌, drop}
use Rattle.psm_codegen.specs.Simples.{statement_items}
use Rattle.psm_codegen.proofs.diagnostics.statement_items.Given as goal

abbrev pub invariant-loop-slot : goal.invariant-loop-slot
invariant-loop-slot l = statement_items l.emit_context.context l.emit_context.resume l.area l.items l.fn.out ≡ statement_items l.emit_context.context l.emit_context.resume l.area (drop l.slot-index l.slot-items) l.out
