use Rattle.std.proofs.Common.{◌≡◌, ◌++◌, drop, map}
use Rattle.std.specs.Option.{option_copied}
use Rattle.psm_scope.specs.Rows.{columns_known}
use Rattle.psm_rules.specs.StatementFaults.{several}
use Rattle.psm_tree.specs.declared.expr.Select.{out-Select}
use Rattle.psm_resolve_expr.specs.Seen.{seen_at}
use Rattle.psm_resolve.specs.Seen.{item_seen}
use Rattle.psm_resolve.specs.Blocks.{items_in}
use Rattle.psm_resolve.proofs.fors.items_in.Given as goal

abbrev pub invariant-loop-pick : goal.invariant-loop-pick
invariant-loop-pick l = map item_seen l.items.items ++ items_in (seen_at l.resolver_scope) (columns_known (option_copied l.columns)) (drop l.pick-index l.pick-items)
    ≡ items_in (seen_at l.resolver_scope) (columns_known (option_copied l.columns)) (several (out-Select l.select).picks)
