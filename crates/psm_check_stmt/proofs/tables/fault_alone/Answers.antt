use Rattle.std.proofs.Common.{◌≡◌, IfOk, map, subst}
use Rattle.psm_rules.specs.Faults.{first_from}
use Rattle.psm_rules.specs.FileFaults.{alone, columns_of, element_fault, table_elements}
use Rattle.psm_rules.specs.CheckerScope.{Columns}
use Rattle.psm_check_stmt.proofs.tables.fault_alone.Goals as goal

pub returns : goal.returns
returns c =
    let t = c.args.table.now in
    let own = c.in_ok-own.own in
    let columns = c.in_ok-columns.columns in
    let faults = λ (cs : Columns). map (element_fault (alone t.name.name cs) cs) (table_elements t) in
    subst (λ o. IfOk c.elements_fault.result (λ f. f ≡ first_from o (faults (columns_of (table_elements t))))) c.in_ok-own.ensures
    (subst (λ cs. IfOk c.elements_fault.result (λ f. f ≡ first_from own (faults cs))) c.in_ok-columns.ensures c.elements_fault.ensures)
