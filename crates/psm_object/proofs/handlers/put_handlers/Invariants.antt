use Rattle.std.proofs.Common.{◌≡◌, ◌++◌, drop, map}
use Rattle.psm_object.specs.Handlers.{handler_line}
use Rattle.psm_object.specs.Words.{text}
use Rattle.psm_object.proofs.handlers.put_handlers.Given as goal

abbrev pub invariant-loop-handler : goal.invariant-loop-handler
invariant-loop-handler l = l.out.items ++ text (map handler_line (drop l.handler-index l.handlers)) ≡ l.fn.out.items ++ text (map handler_line l.handlers)
