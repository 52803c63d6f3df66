use Rattle.std.proofs.Common.{◌≡◌, IfOk, map, subst}
use Rattle.psm_rules.specs.Faults.{first_of}
use Rattle.psm_rules.specs.FileFaults.{element_reference_fault, table_elements}
use Rattle.psm_check_stmt.proofs.references.table_fault.Goals as goal

pub returns : goal.returns
returns c =
    subst (λ cs. IfOk c.elements_fault.result (λ f. f ≡ first_of (map (element_reference_fault cs c.args.known.now) (table_elements c.args.table.now)))) c.in_ok-columns.ensures c.elements_fault.ensures
