use Rattle.std.proofs.Common.{◌≡◌, drop, map}
use Rattle.psm_rules.specs.Faults.{first_from}
use Rattle.psm_rules.specs.Checked.{faults_in}
use Rattle.psm_rules.proofs.checked.faults_in.Given as goal

abbrev pub invariant-loop-part : goal.invariant-loop-part
invariant-loop-part l = first_from l.first (map (λ f. f.fault) (drop l.part-index l.parts)) ≡ faults_in l.parts
