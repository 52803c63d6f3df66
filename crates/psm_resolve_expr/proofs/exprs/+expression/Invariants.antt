use Rattle.std.proofs.Common.{◌≡◌, ◌++◌, ◌∷◌, drop, map}
use Rattle.psm_list.specs.Several.{several_map}
use Rattle.psm_resolve_expr.specs.Exprs.{all_at, at, chained, expr_in, resolve_chain_link, chain_link_of, resolve_expr, resolve_pick, resolve_when, when_of}
use Rattle.psm_rules.specs.Shapes.{kind_of}
use Rattle.psm_resolve_expr.specs.Resolved.{joined_in}
use Rattle.psm_resolve_expr.specs.Parts.{none_picked, operands_of, branches_of, with_picks}
use Rattle.psm_resolve_expr.specs.Seen.{seen_at}
use Rattle.psm_resolve_expr.proofs.exprs.+expression.Given as goal

abbrev pub invariant-resolve_operands-loop-e : goal.invariant-resolve_operands-loop-e
invariant-resolve_operands-loop-e l =
    (l.rest.items ++ map expr_in (all_at (seen_at l.resolver_scope) (map resolve_expr (drop l.e-index l.e-items)))
    ≡ (operands_of (at (seen_at l.resolver_scope) (several_map resolve_expr l.list))).exprs.rest)
    × (joined_in l.result (map (λ m. m.shape) (all_at (seen_at l.resolver_scope) (map resolve_expr (drop l.e-index l.e-items))))
    ≡ (operands_of (at (seen_at l.resolver_scope) (several_map resolve_expr l.list))).result)

abbrev pub invariant-resolve_arguments-loop-e : goal.invariant-resolve_arguments-loop-e
invariant-resolve_arguments-loop-e l =
    (l.exprs.items ++ map expr_in (all_at (seen_at l.resolver_scope) (map resolve_expr (drop l.e-index l.e-items)))
    ≡ map expr_in (all_at (seen_at l.resolver_scope) (map resolve_expr l.list)))
    × (l.kinds.items ++ map (λ m. kind_of m.shape) (all_at (seen_at l.resolver_scope) (map resolve_expr (drop l.e-index l.e-items)))
    ≡ map (λ m. kind_of m.shape) (all_at (seen_at l.resolver_scope) (map resolve_expr l.list)))

abbrev pub invariant-resolve_operator_chain-loop-chain_link : goal.invariant-resolve_operator_chain-loop-chain_link
invariant-resolve_operator_chain-loop-chain_link l =
    (l.resolved.items ++ map chain_link_of (all_at (seen_at l.resolver_scope) (map resolve_chain_link (drop l.chain_link-index l.chain_link-items)))
    ≡ map chain_link_of (all_at (seen_at l.resolver_scope) (map resolve_chain_link l.chain_links)))
    × (chained l.shape (all_at (seen_at l.resolver_scope) (map resolve_chain_link (drop l.chain_link-index l.chain_link-items)))
    ≡ chained l.first.shape (all_at (seen_at l.resolver_scope) (map resolve_chain_link l.chain_links)))

abbrev pub invariant-resolve_branches-loop-when : goal.invariant-resolve_branches-loop-when
invariant-resolve_branches-loop-when l =
    (l.rest.items ++ map when_of (all_at (seen_at l.resolver_scope) (map resolve_when (drop l.when-index l.when-items)))
    ≡ (branches_of (at (seen_at l.resolver_scope) (several_map resolve_when l.whens))).whens.rest)
    × (joined_in l.result (map (λ w. w.1.shape) (all_at (seen_at l.resolver_scope) (map resolve_when (drop l.when-index l.when-items))))
    ≡ (branches_of (at (seen_at l.resolver_scope) (several_map resolve_when l.whens))).result)

abbrev pub invariant-resolve_picks-loop-pick : goal.invariant-resolve_picks-loop-pick
invariant-resolve_picks-loop-pick l =
    with_picks l.picks (all_at (seen_at l.resolver_scope) (map resolve_pick (drop l.pick-index l.pick-items)))
    ≡ with_picks none_picked (all_at (seen_at l.resolver_scope) (map resolve_pick (l.list.first ∷ l.list.rest)))
