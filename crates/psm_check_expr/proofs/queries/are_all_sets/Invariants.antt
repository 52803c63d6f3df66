use Rattle.std.proofs.Common.{◌≡◌, drop, map}
use Rattle.std.specs.List.{list_all}
use Rattle.psm_rules.specs.ExprFaults.{is_set}
use Rattle.psm_check_expr.specs.Seen.{pick_of}
use Rattle.psm_check_expr.proofs.queries.are_all_sets.Given as goal

abbrev pub invariant-loop-pick : goal.invariant-loop-pick
invariant-loop-pick l = list_all (λ p. is_set p.form) (map pick_of (drop l.pick-index l.picks)) ≡ list_all (λ p. is_set p.form) (map pick_of l.picks)
