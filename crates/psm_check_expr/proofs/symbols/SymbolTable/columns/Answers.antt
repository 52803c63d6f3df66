use Rattle.std.proofs.Common.{ap, ◌∙◌}
use Rattle.psm_scope.specs.Lookup.{named}
use Rattle.psm_check_expr.proofs.symbols.SymbolTable.columns.Goals as goal

pub returns : goal.returns
returns c = c.lent.ensures ∙ ap (λ w. named c.args.table.now w.tables) c.self.view_is
