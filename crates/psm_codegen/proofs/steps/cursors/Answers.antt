use Rattle.psm_codegen.specs.Statements.{WritesCursors, no_cursor}
use Rattle.psm_codegen.proofs.Dropping.{comes_to}
use Rattle.psm_codegen.proofs.steps.cursors.Goals as goal

pub returns : goal.returns
returns c = comes_to (λ xs q. WritesCursors c.args.emit_context.known.now xs c.loop-x.parts q) (λ q. WritesCursors c.args.emit_context.known.now c.args.list.now c.args.parts.now q) c.items-x-items.result.now c.loop-x.x-index c.loop-x.parts c.loop-x-test.false c.loop-x.invariant no_cursor
