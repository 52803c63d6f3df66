use Rattle.std.proofs.Common.{◌≡◌, None, drop}
use Rattle.psm_rules.specs.ExprFaults.{differing}
use Rattle.psm_check_expr.proofs.results.differing.Given as goal

abbrev pub invariant-loop-checked : goal.invariant-loop-checked
invariant-loop-checked l = differing l.due (drop l.checked-index l.results) ≡ differing None l.results
