use Rattle.std.proofs.Common.{◌≡◌, drop, map}
use Rattle.psm_rules.specs.Faults.{first_from, first_of}
use Rattle.psm_rules.specs.FileFaults.{own_reference_fault}
use Rattle.psm_check_stmt.proofs.references.rules_fault.Given as goal

abbrev pub invariant-loop-rule : goal.invariant-loop-rule
invariant-loop-rule l = first_from l.fault (map (λ r. own_reference_fault l.own l.known l.column r.form) (drop l.rule-index l.rules))
    ≡ first_of (map (λ r. own_reference_fault l.own l.known l.column r.form) l.rules)
