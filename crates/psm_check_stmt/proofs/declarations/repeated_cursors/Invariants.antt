use Rattle.std.proofs.Common.{◌≡◌, drop, map}
use Rattle.psm_rules.specs.declared.rule.Rule.TheVariants as rule
use Rattle.psm_check_stmt.specs.Listed.{with_names}
use Rattle.psm_check_stmt.proofs.declarations.repeated_cursors.Given as goal

abbrev pub invariant-loop-declared : goal.invariant-loop-declared
invariant-loop-declared l = with_names l.names (map (λ x. x.name) (drop l.declared-index l.declared-items)) ≡ record { rule = rule.DeclarationRepeated; names = map (λ x. x.name) l.cursors }
