use Rattle.std.proofs.Common.{◌≡◌, drop, map}
use Rattle.psm_rules.specs.Faults.{first_from}
use Rattle.psm_rules.specs.FileFaults.{alone, element_fault, table_elements}
use Rattle.psm_check_stmt.proofs.tables.elements_fault.Given as goal

abbrev pub invariant-loop-element : goal.invariant-loop-element
invariant-loop-element l = first_from l.fault (map (element_fault (alone l.table.name.name l.columns) l.columns) (drop l.element-index l.element-items))
    ≡ first_from l.fn.before (map (element_fault (alone l.table.name.name l.columns) l.columns) (table_elements l.table))
