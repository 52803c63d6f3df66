use Rattle.std.proofs.Common.{ap, ◌∙◌}
use Rattle.psm_scope.specs.Lookup.{index_named}
use Rattle.psm_resolve_expr.specs.Exprs.{number_of}
use Rattle.psm_resolve_expr.proofs.Joined.{number_known, number_unknown}
use Rattle.psm_resolve_expr.proofs.resolver_scope.table_number.Goals as goal

pub returns-in-None : goal.returns-in-None
returns-in-None c =
    number_unknown (index_named 0 c.args.table.now c.symbols.inside.tables) c.in-None.ensures ∙ ap (λ w. number_of (index_named 0 c.args.table.now w.tables)) c.symbols.view_is

pub returns-in-Some : goal.returns-in-Some
returns-in-Some c =
    number_known c.in-Some.number (index_named 0 c.args.table.now c.symbols.inside.tables) c.in-Some.ensures ∙ ap (λ w. number_of (index_named 0 c.args.table.now w.tables)) c.symbols.view_is
