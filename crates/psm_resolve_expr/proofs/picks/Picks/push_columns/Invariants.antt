use Rattle.std.proofs.Common.{◌≡◌, drop}
use Rattle.psm_resolve_expr.specs.Exprs.{columns_from}
use Rattle.psm_resolve_expr.specs.Resolved.{Values}
use Rattle.psm_resolve_expr.specs.Parts.{with_pick}
use Rattle.psm_resolve_expr.proofs.picks.Picks.push_columns.Given as goal

abbrev pub invariant-loop-number : goal.invariant-loop-number
invariant-loop-number l = with_pick l.self (Values (columns_from l.number (drop l.number l.columns))) ≡ with_pick l.fn.self (Values (columns_from 0 l.columns))
