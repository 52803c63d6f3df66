use Rattle.std.proofs.Common.{◌≡◌, ◌++◌, [], drop, map}
use Rattle.psm_print.specs.Spelling.{each}
use Rattle.psm_print.specs.FileTokens.{column_rule_tokens}
use Rattle.psm_print.proofs.files.column_rules.Given as goal

abbrev pub invariant-loop-rule : goal.invariant-loop-rule
invariant-loop-rule l = l.out ++ each [] (map column_rule_tokens (drop l.rule-index l.rule-items)) ≡ l.fn.out ++ each [] (map column_rule_tokens l.rules)
