use Rattle.std.proofs.Common.{◌≡◌, drop, map}
use Rattle.psm_rules.specs.Faults.{first_from, first_of}
use Rattle.psm_rules.specs.StatementFaults.{statement_item_family, item_fault, several}
use Rattle.psm_check_stmt.proofs.conditions.statement_items_fault.Given as goal

abbrev pub invariant-loop-i : goal.invariant-loop-i
invariant-loop-i l = first_from l.fault (map (λ i. item_fault l.scopes i.target i.place (statement_item_family i.item)) (drop l.i-index l.items.rest)) ≡ first_of (map (λ i. item_fault l.scopes i.target i.place (statement_item_family i.item)) (several l.items))
