use Rattle.std.proofs.Common.{◌≡◌, ◌++◌, drop, map}
use Rattle.psm_object.specs.Queries.{cursor_line}
use Rattle.psm_object.specs.Words.{text}
use Rattle.psm_object.proofs.queries.put_cursors.Given as goal

abbrev pub invariant-loop-cursor : goal.invariant-loop-cursor
invariant-loop-cursor l = l.out.items ++ text (map cursor_line (drop l.cursor-index l.cursors)) ≡ l.fn.out.items ++ text (map cursor_line l.cursors)
