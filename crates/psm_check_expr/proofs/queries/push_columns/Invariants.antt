use Rattle.std.proofs.Common.{◌≡◌, ◌++◌, drop, map}
use Rattle.psm_rules.specs.ExprFaults.{column_item}
use Rattle.psm_check_expr.proofs.queries.push_columns.Given as goal

abbrev pub invariant-loop-number : goal.invariant-loop-number
invariant-loop-number l = l.items.items ++ map (column_item l.place) (drop l.number l.columns) ≡ l.fn.items.items ++ map (column_item l.place) l.columns
