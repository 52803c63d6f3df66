use Rattle.std.proofs.Common.{◌≡◌, ◌++◌, drop}
use Rattle.std.specs.List.{flat_map}
use Rattle.psm_object.specs.Queries.{item_lines}
use Rattle.psm_object.specs.Words.{text}
use Rattle.psm_object.proofs.queries.put_row_items.Given as goal

abbrev pub invariant-loop-expr : goal.invariant-loop-expr
invariant-loop-expr l = l.out.items ++ text (flat_map item_lines (drop l.expr-index l.exprs)) ≡ l.fn.out.items ++ text (flat_map item_lines l.exprs)
