use Rattle.std.proofs.Common.{◌≡◌, drop}
use Rattle.psm_rules.specs.FileFaults.{own_keys}
use Rattle.psm_check_stmt.specs.Keys.{and_keys, kept}
use Rattle.psm_check_stmt.proofs.tables.with_own_keys.Given as goal

abbrev pub invariant-loop-rule : goal.invariant-loop-rule
invariant-loop-rule l = and_keys (kept l.so_far) (own_keys l.name.name (drop l.rule-index l.rules)) ≡ and_keys (kept l.fn.keys) (own_keys l.name.name l.rules)
