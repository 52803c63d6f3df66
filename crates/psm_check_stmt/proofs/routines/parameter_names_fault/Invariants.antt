use Rattle.std.proofs.Common.{◌≡◌, drop, map}
use Rattle.psm_rules.specs.declared.rule.Rule.TheVariants as rule
use Rattle.psm_check_stmt.specs.Listed.{with_names}
use Rattle.psm_check_stmt.proofs.routines.parameter_names_fault.Given as goal

abbrev pub invariant-loop-parameter : goal.invariant-loop-parameter
invariant-loop-parameter l = with_names l.names (map (λ p. p.name) (drop l.parameter-index l.parameters))
    ≡ record { rule = rule.ParameterRepeated; names = map (λ p. p.name) l.parameters }
