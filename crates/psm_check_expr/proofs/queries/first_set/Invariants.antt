use Rattle.std.proofs.Common.{◌≡◌, drop, map}
use Rattle.psm_rules.specs.ExprFaults.{first_set}
use Rattle.psm_check_expr.specs.Seen.{pick_of}
use Rattle.psm_check_expr.proofs.queries.first_set.Given as goal

abbrev pub invariant-loop-pick : goal.invariant-loop-pick
invariant-loop-pick l = first_set (map pick_of (drop l.pick-index l.picks)) ≡ first_set (map pick_of l.picks)
