use Rattle.std.proofs.Common.{◌≡◌, ◌++◌, drop}
use Rattle.std.specs.List.{flat_map}
use Rattle.psm_object.specs.Expressions.{expression_lines}
use Rattle.psm_object.specs.Words.{text}
use Rattle.psm_object.proofs.tables.put_checks.Given as goal

abbrev pub invariant-loop-check : goal.invariant-loop-check
invariant-loop-check l = l.out.items ++ text (flat_map expression_lines (drop l.check-index l.checks)) ≡ l.fn.out.items ++ text (flat_map expression_lines l.checks)
