-- What is seen at a place as it is kept.
use Rattle.std.specs.Option.{option_copied, option_map}
use Rattle.psm_scope.specs.Rows.{row_table}
use Rattle.psm_rules.specs.ExprFaults.{PickChecked}
use Rattle.psm_rules.specs.CheckerScope.{CheckerScope}
use Rattle.psm_check_expr.specs.declared.checker_scope.CheckerScope.{CheckerScope as KeptCheckerScope}
use Rattle.psm_check_expr.specs.declared.queries.PickChecked.{PickChecked as KeptPick}

abbrev pub seen_in_checker_scope : KeptCheckerScope → CheckerScope
seen_in_checker_scope v = record { symbols = v.symbols.now; scopes = v.scopes.now; row = option_map row_table v.row }

abbrev pub pick_of : KeptPick → PickChecked
pick_of p = record { form = p.form; checked = p.checked; alias = option_copied p.alias }
