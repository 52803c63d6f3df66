use Rattle.std.proofs.Common.{◌≡◌, drop, map}
use Rattle.psm_rules.specs.Faults.{first_from, first_of}
use Rattle.psm_rules.specs.FileFaults.{element_reference_fault, table_elements}
use Rattle.psm_check_stmt.proofs.references.elements_fault.Given as goal

abbrev pub invariant-loop-element : goal.invariant-loop-element
invariant-loop-element l = first_from l.fault (map (element_reference_fault l.own l.known) (drop l.element-index l.element-items))
    ≡ first_of (map (element_reference_fault l.own l.known) (table_elements l.table))
