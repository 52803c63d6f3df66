use Rattle.std.proofs.Common.{◌≡◌, ◌++◌, drop, map}
use Rattle.psm_tree.specs.declared.expr.Select.{out-Select}
use Rattle.psm_rules.specs.StatementFaults.{several}
use Rattle.psm_rules.specs.BlockFaults.{for_item}
use Rattle.psm_check_stmt.specs.ForItems.{item_of}
use Rattle.psm_check_expr.specs.Seen.{seen_in_checker_scope}
use Rattle.psm_check_stmt.proofs.loops.items_of_picks.Given as goal

abbrev pub invariant-loop-number : goal.invariant-loop-number
invariant-loop-number l = map item_of l.items.items ++ map (for_item (seen_in_checker_scope l.checker_scope)) (drop l.number l.others)
    ≡ map (for_item (seen_in_checker_scope l.checker_scope)) (several (out-Select l.select).picks)
