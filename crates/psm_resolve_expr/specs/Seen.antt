-- What is seen at a place as it is kept.
use Rattle.std.specs.Option.{option_map}
use Rattle.psm_scope.specs.Rows.{row_table}
use Rattle.psm_resolve_expr.specs.ResolverScope.{ResolverScope}
use Rattle.psm_resolve_expr.specs.declared.resolver_scope.ResolverScope.{ResolverScope as Kept}

abbrev pub seen_at : Kept → ResolverScope
seen_at s = record { symbols = s.symbols.now; scopes = s.scopes.now; row = option_map row_table s.row }
