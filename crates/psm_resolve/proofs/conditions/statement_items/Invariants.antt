use Rattle.std.proofs.Common.{◌≡◌, ◌++◌, drop, map}
use Rattle.psm_rules.specs.StatementFaults.{several}
use Rattle.psm_resolve.specs.Statements.{slot_of, statement_item}
use Rattle.psm_resolve.proofs.conditions.statement_items.Given as goal

abbrev pub invariant-loop-item : goal.invariant-loop-item
invariant-loop-item l = l.resolved.items ++ map (λ i. (slot_of l.scopes i.target, statement_item i.item)) (drop l.item-index l.items.rest) ≡ map (λ i. (slot_of l.scopes i.target, statement_item i.item)) (several l.items)
