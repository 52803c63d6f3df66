use Rattle.std.proofs.Common.{◌≡◌, drop}
use Rattle.psm_rules.specs.declared.rule.Rule.TheVariants as rule
use Rattle.psm_rules.specs.BlockFaults.{variable_names}
use Rattle.psm_check_stmt.specs.Listed.{with_names}
use Rattle.psm_check_stmt.proofs.declarations.repeated_variables.Given as goal

abbrev pub invariant-loop-declaration : goal.invariant-loop-declaration
invariant-loop-declaration l = with_names l.names (variable_names (drop l.declaration-index l.declaration-items)) ≡ record { rule = rule.DeclarationRepeated; names = variable_names l.declarations }
