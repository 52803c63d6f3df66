use Rattle.std.proofs.Common.{◌≡◌, ◌++◌, ◌∷◌, drop, map}
use Rattle.psm_list.specs.Several.{several_map}
use Rattle.psm_rules.specs.Checked.{as_condition, as_value}
use Rattle.psm_rules.specs.ExprFaults.{chained, check_expr, check_chain_link, check_pick, seen, seen_in, simple_test, check_when}
use Rattle.psm_check_expr.specs.Seen.{pick_of, seen_in_checker_scope}
use Rattle.psm_check_expr.proofs.exprs.+expression.Given as goal

abbrev pub invariant-push_values-loop-e : goal.invariant-push_values-loop-e
invariant-push_values-loop-e l = l.values.items ++ map as_value (seen (seen_in_checker_scope l.checker_scope) (map check_expr (drop l.e-index l.e-items)))
    ≡ l.fn.values.items ++ map as_value (seen (seen_in_checker_scope l.checker_scope) (map check_expr l.list))

abbrev pub invariant-push_several-loop-e : goal.invariant-push_several-loop-e
invariant-push_several-loop-e l = l.values.items ++ map as_value (seen (seen_in_checker_scope l.checker_scope) (map check_expr (drop l.e-index l.e-items)))
    ≡ l.fn.values.items ++ map as_value (seen_in (seen_in_checker_scope l.checker_scope) (several_map check_expr l.list))

abbrev pub invariant-check_logical_operator-loop-e : goal.invariant-check_logical_operator-loop-e
invariant-check_logical_operator-loop-e l = l.conditions.items ++ map as_condition (seen (seen_in_checker_scope l.checker_scope) (map check_expr (drop l.e-index l.e-items)))
    ≡ map as_condition (seen_in (seen_in_checker_scope l.checker_scope) (several_map check_expr l.operands))

abbrev pub invariant-check_operator_chain-loop-chain_link : goal.invariant-check_operator_chain-loop-chain_link
invariant-check_operator_chain-loop-chain_link l = chained l.left (seen (seen_in_checker_scope l.checker_scope) (map check_chain_link (drop l.chain_link-index l.chain_link-items)))
    ≡ chained l.fn.first (seen (seen_in_checker_scope l.checker_scope) (map check_chain_link l.chain_links))

abbrev pub invariant-check_searched-loop-when : goal.invariant-check_searched-loop-when
invariant-check_searched-loop-when l =
    (l.tests.items ++ map (λ w. as_condition w.0) (seen (seen_in_checker_scope l.checker_scope) (map check_when (drop l.when-index l.when-items)))
    ≡ map (λ w. as_condition w.0) (seen_in (seen_in_checker_scope l.checker_scope) (several_map check_when l.whens)))
    × (l.results.items ++ map (λ w. as_value w.1) (seen (seen_in_checker_scope l.checker_scope) (map check_when (drop l.when-index l.when-items)))
    ≡ map (λ w. as_value w.1) (seen_in (seen_in_checker_scope l.checker_scope) (several_map check_when l.whens)))

abbrev pub invariant-check_simple-loop-when : goal.invariant-check_simple-loop-when
invariant-check_simple-loop-when l =
    (l.tests.items ++ map (λ w. simple_test (as_value l.fn.operand) w.0) (seen (seen_in_checker_scope l.checker_scope) (map check_when (drop l.when-index l.when-items)))
    ≡ as_value l.fn.operand ∷ map (λ w. simple_test (as_value l.fn.operand) w.0) (seen_in (seen_in_checker_scope l.checker_scope) (several_map check_when l.whens)))
    × (l.results.items ++ map (λ w. as_value w.1) (seen (seen_in_checker_scope l.checker_scope) (map check_when (drop l.when-index l.when-items)))
    ≡ map (λ w. as_value w.1) (seen_in (seen_in_checker_scope l.checker_scope) (several_map check_when l.whens)))

abbrev pub invariant-check_picks-loop-pick : goal.invariant-check_picks-loop-pick
invariant-check_picks-loop-pick l =
    map pick_of l.picks.items ++ seen (seen_in_checker_scope l.checker_scope) (map check_pick (drop l.pick-index l.pick-items))
    ≡ seen_in (seen_in_checker_scope l.checker_scope) (several_map check_pick l.list)
