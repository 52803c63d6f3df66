use Rattle.std.proofs.Common.{ap, ◌∙◌}
use Rattle.psm_rules.specs.ExprFaults.{check_expr}
use Rattle.psm_check_expr.specs.Seen.{seen_in_checker_scope}
use Rattle.psm_check_expr.proofs.Optional.{case_is, like_is, substring_is}
use Rattle.psm_check_expr.proofs.exprs.+expression.Goals as goal

pub check_expr-returns-in_ok-third-in-Like : goal.check_expr-returns-in_ok-third-in-Like
check_expr-returns-in_ok-third-in-Like t c =
    let checker_scope = seen_in_checker_scope c.args.checker_scope in
    c.check_like.ensures
    ∙ like_is c.args.e.now c.in-Like.value c.in-Like.pattern c.in-Like.negated c.in-Like.escape checker_scope c.in_ok-first-in-Like.first c.in_ok-second-in-Like.second c.in_ok-third-in-Like.third
    c.in-Like.is (c.in_ok-first-in-Like.ensures ∙ ap (λ e. check_expr e checker_scope) c.get-in-Like.ensures) (c.in_ok-second-in-Like.ensures ∙ ap (λ e. check_expr e checker_scope) c.get-in-Like-2.ensures) c.in_ok-third-in-Like.ensures

pub check_expr-returns-in_ok-checked-in-Case : goal.check_expr-returns-in_ok-checked-in-Case
check_expr-returns-in_ok-checked-in-Case t c =
    c.in_ok-checked-in-Case.ensures
    ∙ case_is c.args.e.now c.in-Case.place c.in-Case.operand c.in-Case.whens c.in-Case.otherwise (seen_in_checker_scope c.args.checker_scope) c.in_ok-first-in-Case.first c.in_ok-last-in-Case.last
    c.in-Case.is c.in_ok-first-in-Case.ensures c.in_ok-last-in-Case.ensures

pub check_expr-returns-in_ok-third-in-Substring : goal.check_expr-returns-in_ok-third-in-Substring
check_expr-returns-in_ok-third-in-Substring t c =
    let checker_scope = seen_in_checker_scope c.args.checker_scope in
    c.check_substring.ensures
    ∙ substring_is c.args.e.now c.in-Substring.place c.in-Substring.text c.in-Substring.from c.in-Substring.length checker_scope c.in_ok-first-in-Substring.first c.in_ok-second-in-Substring.second c.in_ok-third-in-Substring.third
    c.in-Substring.is (c.in_ok-first-in-Substring.ensures ∙ ap (λ e. check_expr e checker_scope) c.get-in-Substring.ensures) (c.in_ok-second-in-Substring.ensures ∙ ap (λ e. check_expr e checker_scope) c.get-in-Substring-2.ensures)
    c.in_ok-third-in-Substring.ensures
