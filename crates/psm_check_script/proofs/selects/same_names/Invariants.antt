use Rattle.std.proofs.Common.{◌≡◌, drop, map}
use Rattle.psm_rules.specs.BlockFaults.{same_names}
use Rattle.psm_check_script.proofs.selects.same_names.Given as goal

abbrev pub invariant-loop-number : goal.invariant-loop-number
invariant-loop-number l = same_names (map (λ n. n.now) (drop l.number l.names)) (map (λ c. c.column.name) (drop l.number l.columns)) ≡ same_names (map (λ n. n.now) l.names) (map (λ c. c.column.name) l.columns)
