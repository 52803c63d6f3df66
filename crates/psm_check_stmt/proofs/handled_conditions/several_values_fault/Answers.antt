use Rattle.std.proofs.Common.{ap, subst, ◌∷◌, []}
use Rattle.psm_tree.specs.declared.statement.HandlerValue.{HandlerValue}
use Rattle.psm_check_stmt.specs.Handling.{FindsIn}
use Rattle.psm_check_stmt.proofs.Handling.{finds_next}
use Rattle.psm_check_stmt.proofs.handled_conditions.several_values_fault.Goals as goal

pub loop-value-init : goal.loop-value-init
loop-value-init c =
    subst (λ (v : HandlerValue). FindsIn c.args.scopes.now (v ∷ []) c.args.handled_conditions.now c.value_fault.new.handled_conditions c.in_ok-fault.fault) (ap (λ s. s.first) c.values.view_is) c.in_ok-fault.ensures

pub loop-value-preserved : goal.loop-value-preserved
loop-value-preserved c =
    finds_next c.args.scopes.now (c.args.values.now.first ∷ []) c.items-value-items.result.now c.loop-value.value-index c.value-item.result c.args.handled_conditions.now c.loop-value.handled_conditions
    c.value_fault-in-loop-value.new.handled_conditions c.loop-value.fault c.in_ok-own.own c.earlier-fault.result c.loop-value-test.true c.value-item.is c.loop-value.invariant c.in_ok-own.ensures c.earlier-fault.ensures
