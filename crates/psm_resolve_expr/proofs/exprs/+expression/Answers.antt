use Rattle.std.proofs.Common.{◌≡◌, subst}
use Rattle.std.specs.Prelude.{IfOk}
use Rattle.psm_resolve_expr.specs.declared.resolved.Resolved.{Resolved}
use Rattle.psm_resolve_expr.specs.Seen.{seen_at}
use Rattle.psm_resolve_expr.proofs.Equations.{case_by}
use Rattle.psm_resolve_expr.proofs.exprs.+expression.Goals as goal

pub resolve_expr-returns-in_ok-otherwise-in-Case : goal.resolve_expr-returns-in_ok-otherwise-in-Case
resolve_expr-returns-in_ok-otherwise-in-Case t c =
    subst (λ (x : Resolved). IfOk c.case.result (λ m. m ≡ x))
    (case_by c.args.e.now c.in-Case.place c.in-Case.operand c.in-Case.whens c.in-Case.otherwise (seen_at c.args.resolver_scope) c.in_ok-operand-in-Case.operand c.in_ok-otherwise-in-Case.otherwise
    c.in_ok-branches-in-Case.branches c.in-Case.is c.in_ok-operand-in-Case.ensures c.in_ok-branches-in-Case.ensures c.in_ok-otherwise-in-Case.ensures)
    c.case.ensures
