-- What is found in an expression with an optional part, by what is found in its parts.
use Rattle.std.proofs.Common.{◌≡◌, Bool, ◌∷◌, Option, option_map, sym}
use Rattle.psm_list.specs.Several.{Several, several_map}
use Rattle.psm_token.specs.declared.place.Place.{Place}
use Rattle.psm_tree.specs.declared.expr.Expr.{Expr}
use Rattle.psm_tree.specs.declared.expr.Expr.TheVariants as exprs
use Rattle.psm_tree.specs.declared.expr.When.{When}
use Rattle.psm_rules.specs.declared.checked.Checked.{Checked}
use Rattle.psm_rules.specs.declared.shape.Family.TheVariants.{Numbers, Texts}
use Rattle.psm_rules.specs.Checked.{as_value}
use Rattle.psm_rules.specs.Shapes.{varying}
use Rattle.psm_rules.specs.CheckerScope.{CheckerScope}
use Rattle.psm_rules.specs.ExprFaults.{argument, check_case, else_of, check_expr, check_function, check_like, seen_in, seen_option, check_when, with_length}
use Rattle.psm_check_expr.proofs.Equations.{checked-Case, checked-Like, checked-Substring}

pub like_is : (e value pattern : Expr) (negated : Bool) (escape : Option Expr) (checker_scope : CheckerScope) (v p : Checked) (x : Option Checked)
    → e ≡ exprs.Like negated value pattern escape → v ≡ check_expr value checker_scope → p ≡ check_expr pattern checker_scope → x ≡ seen_option checker_scope (option_map check_expr escape)
    → check_like v.place (as_value v ∷ as_value p ∷ else_of x) ≡ check_expr e checker_scope
like_is e value pattern negated escape checker_scope v p x is a b c = rw (is, a, b, c) (sym (checked-Like negated value pattern escape checker_scope))

pub case_is : (e : Expr) (place : Place) (operand : Option Expr) (whens : Several When) (otherwise : Option Expr) (checker_scope : CheckerScope) (o x : Option Checked)
    → e ≡ exprs.Case place operand whens otherwise → o ≡ seen_option checker_scope (option_map check_expr operand) → x ≡ seen_option checker_scope (option_map check_expr otherwise)
    → check_case place o (seen_in checker_scope (several_map check_when whens)) x ≡ check_expr e checker_scope
case_is e place operand whens otherwise checker_scope o x is a b = rw (is, a, b) (sym (checked-Case place operand whens otherwise checker_scope))

pub substring_is : (e : Expr) (place : Place) (text from : Expr) (length : Option Expr) (checker_scope : CheckerScope) (t f : Checked) (n : Option Checked)
    → e ≡ exprs.Substring place text from length → t ≡ check_expr text checker_scope → f ≡ check_expr from checker_scope → n ≡ seen_option checker_scope (option_map check_expr length)
    → check_function place varying (argument Texts t ∷ argument Numbers f ∷ with_length n) ≡ check_expr e checker_scope
substring_is e place text from length checker_scope t f n is a b c = rw (is, a, b, c) (sym (checked-Substring place text from length checker_scope))
