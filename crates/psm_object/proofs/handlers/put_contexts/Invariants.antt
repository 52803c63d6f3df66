use Rattle.std.proofs.Common.{◌≡◌, ◌++◌, drop, map}
use Rattle.psm_object.specs.Handlers.{context_line}
use Rattle.psm_object.specs.Words.{text}
use Rattle.psm_object.proofs.handlers.put_contexts.Given as goal

abbrev pub invariant-loop-context : goal.invariant-loop-context
invariant-loop-context l = l.out.items ++ text (map context_line (drop l.context-index l.contexts)) ≡ l.fn.out.items ++ text (map context_line l.contexts)
