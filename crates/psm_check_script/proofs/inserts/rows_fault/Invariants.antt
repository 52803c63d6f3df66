use Rattle.std.proofs.Common.{◌≡◌, drop, map}
use Rattle.psm_rules.specs.Faults.{first_from}
use Rattle.psm_check_script.specs.ScriptFaults.{rows_fault, values_fault}
use Rattle.psm_check_script.proofs.inserts.rows_fault.Given as goal

abbrev pub invariant-loop-row : goal.invariant-loop-row
invariant-loop-row l = first_from l.fault (map (λ r. values_fault l.types r.values) (drop l.row-index l.rows.rest)) ≡ rows_fault l.types l.rows
