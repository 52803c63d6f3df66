use Rattle.std.proofs.Common.{◌≡◌, drop, map}
use Rattle.psm_rules.specs.BlockFaults.{same_names}
use Rattle.psm_check_stmt.proofs.cursors.same_names.Given as goal

abbrev pub invariant-loop-number : goal.invariant-loop-number
invariant-loop-number l = same_names (map (λ n. n.name) (drop l.number l.names)) (map (λ c. c.column.name) (drop l.number l.columns)) ≡ same_names (map (λ n. n.name) l.names) (map (λ c. c.column.name) l.columns)
