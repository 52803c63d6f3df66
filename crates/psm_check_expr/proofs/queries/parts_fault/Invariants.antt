use Rattle.std.proofs.Common.{◌≡◌, drop, map}
use Rattle.psm_rules.specs.ExprFaults.{parts_fault}
use Rattle.psm_rules.specs.Faults.{first_from}
use Rattle.psm_check_expr.specs.Seen.{pick_of}
use Rattle.psm_check_expr.proofs.queries.parts_fault.Given as goal

abbrev pub invariant-loop-pick : goal.invariant-loop-pick
invariant-loop-pick l = first_from l.first (map (λ p. p.checked.fault) (map pick_of (drop l.pick-index l.picks))) ≡ parts_fault (map pick_of l.picks)
