use Rattle.std.proofs.Common.{◌≡◌, drop, map}
use Rattle.psm_rules.specs.declared.rule.Rule.TheVariants as rule
use Rattle.psm_check_stmt.specs.Listed.{with_names}
use Rattle.psm_check_stmt.proofs.files.table_names_fault.Given as goal

abbrev pub invariant-loop-table : goal.invariant-loop-table
invariant-loop-table l = with_names l.names (map (λ t. t.name) (drop l.table-index l.tables)) ≡ record { rule = rule.TableRepeated; names = map (λ t. t.name) l.tables }
