use Rattle.std.proofs.Common.{◌∙◌, None, Some, ap, not, sym}
use Rattle.psm_rules.specs.declared.rule.Rule.TheVariants.{OrderIsNotKey}
use Rattle.psm_rules.specs.BlockFaults.{order_fault}
use Rattle.psm_rules.specs.Faults.{breaks_if}
use Rattle.psm_check_stmt.proofs.Orders.{kept_order}
use Rattle.psm_check_stmt.proofs.cursors.order_fault.Goals as goal

pub returns-in-None-get : goal.returns-in-None-get
returns-in-None-get c =
    let table = c.args.table.now in
    sym (ap (λ o. order_fault c.args.symbols.now table o) c.in-Some.is
    ∙ ap (λ w. order_fault w table (Some c.in-Some.order)) (sym c.symbols.view_is)
    ∙ kept_order table.name c.symbols.inside.keys c.in-Some.order None c.in-None-get.ensures)

pub returns-in-Some-get : goal.returns-in-Some-get
returns-in-Some-get c =
    let table = c.args.table.now in
    sym (ap (λ o. order_fault c.args.symbols.now table o) c.in-Some.is
    ∙ ap (λ w. order_fault w table (Some c.in-Some.order)) (sym c.symbols.view_is)
    ∙ kept_order table.name c.symbols.inside.keys c.in-Some.order (Some c.in-Some-get.key) c.in-Some-get.ensures
    ∙ ap (λ b. breaks_if (not b) OrderIsNotKey c.in-Some.order.place) (sym c.is_key_order.ensures)
    ∙ sym c.breaks_if.ensures)
