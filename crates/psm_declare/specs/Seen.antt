-- Where a routine is read, as it is kept, and an expression where it stands.
use Rattle.std.specs.Prelude.{None}
use Rattle.psm_tree.specs.declared.expr.Expr.{Expr}
use Rattle.psm_resolved.specs.declared.expr.ResolvedExpr.{ResolvedExpr}
use Rattle.psm_resolve_expr.specs.Exprs.{resolve_expr}
use Rattle.psm_resolve_expr.specs.ResolverScope.{ResolverScope, Scopes}
use Rattle.psm_declare.specs.declared.resolver.ResolveContext.{ResolveContext}

-- what a control expression sees there in some scopes
abbrev pub control : ResolveContext → Scopes → ResolverScope
control resolver scopes = record { symbols = resolver.symbols.now; scopes = scopes; row = None }

abbrev pub expr_at : ResolverScope → Expr → ResolvedExpr
expr_at resolver_scope e = (resolve_expr e resolver_scope).expr
