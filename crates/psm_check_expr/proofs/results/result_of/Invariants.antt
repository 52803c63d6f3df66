use Rattle.std.proofs.Common.{◌≡◌, None, drop}
use Rattle.psm_rules.specs.ExprFaults.{result_of}
use Rattle.psm_check_expr.proofs.results.result_of.Given as goal

abbrev pub invariant-loop-checked : goal.invariant-loop-checked
invariant-loop-checked l = result_of l.so_far (drop l.checked-index l.results) ≡ result_of None l.results
