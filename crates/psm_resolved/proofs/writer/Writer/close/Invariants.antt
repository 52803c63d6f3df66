use Rattle.std.proofs.Common.{◌≡◌, drop}
use Rattle.psm_resolved.specs.Exits.{exit_op}
use Rattle.psm_resolved.specs.Written.{patched}
use Rattle.psm_resolved.proofs.writer.Writer.close.Given as goal

abbrev pub invariant-loop-index : goal.invariant-loop-index
invariant-loop-index l = (patched (exit_op l.kind l.end) (drop l.index-index l.indexes) l.self.lines ≡ patched (exit_op l.kind l.end) l.indexes l.fn.self.lines) × (l.self.stack ≡ l.fn.self.stack)
