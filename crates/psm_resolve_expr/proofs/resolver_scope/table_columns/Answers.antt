use Rattle.std.proofs.Common.{ap, ◌∙◌}
use Rattle.psm_scope.specs.Rows.{columns_known}
use Rattle.psm_resolve_expr.proofs.Joined.{columns_placed}
use Rattle.psm_resolve_expr.proofs.resolver_scope.table_columns.Goals as goal

pub returns : goal.returns
returns c = ap columns_known c.columns.ensures ∙ columns_placed 0 c.args.table.now c.args.resolver_scope.symbols.now.tables
