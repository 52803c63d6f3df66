use Rattle.std.proofs.Common.{◌≡◌, drop}
use Rattle.psm_rules.specs.FileFaults.{with_own_rules}
use Rattle.psm_check_stmt.proofs.key_lists.KeyLists.add_own_rules.Given as goal

abbrev pub invariant-loop-rule : goal.invariant-loop-rule
invariant-loop-rule l = with_own_rules l.self l.name.name (drop l.rule-index l.rules) ≡ with_own_rules l.fn.self l.name.name l.rules
