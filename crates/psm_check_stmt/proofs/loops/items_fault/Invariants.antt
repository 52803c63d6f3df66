use Rattle.std.proofs.Common.{◌≡◌, drop, map}
use Rattle.std.specs.Prelude.{IsTrue}
use Rattle.std.specs.Option.{option_copied}
use Rattle.psm_scope.specs.Rows.{columns_known}
use Rattle.psm_scope.specs.KeptScopes.{can_declare_here}
use Rattle.psm_rules.specs.Faults.{first_from, first_of}
use Rattle.psm_rules.specs.BlockFaults.{for_items, for_variables}
use Rattle.psm_check_stmt.specs.ForItems.{item_of, variables_here, with_variables_here}
use Rattle.psm_check_stmt.proofs.loops.items_fault.Given as goal

abbrev pub invariant-loop-item : goal.invariant-loop-item
invariant-loop-item l = IsTrue (can_declare_here l.scopes)
    × (first_from l.fault (for_items (columns_known (option_copied l.columns)) (variables_here l.scopes) (map item_of (drop l.item-index l.items)))
    ≡ first_of (for_items (columns_known (option_copied l.columns)) (variables_here l.fn.scopes) (map item_of l.items)))
    × (with_variables_here l.scopes (for_variables (columns_known (option_copied l.columns)) (variables_here l.scopes) (map item_of (drop l.item-index l.items)))
    ≡ with_variables_here l.fn.scopes (for_variables (columns_known (option_copied l.columns)) (variables_here l.fn.scopes) (map item_of l.items)))
