use Rattle.std.proofs.Common.{◌≡◌, true, Some, subst, sym}
use Rattle.psm_exprgen.specs.Queries.{ExprFits, ExprIs, OperandFits, PerhapsIs, is_value_of, is_value_perhaps}
use Rattle.psm_exprgen.proofs.rows.value_perhaps.Goals as goal

pub returns-in_ok-value-in-Some-clause-fits : goal.returns-in_ok-value-in-Some-clause-fits
returns-in_ok-value-in-Some-clause-fits c =
    subst (λ o. OperandFits c.args.columns.now c.args.variables.now o (Some c.in_ok-value-in-Some.field-0)) (sym c.in-Some.is)
    (subst (λ e. ExprFits c.args.columns.now c.args.variables.now e c.in_ok-value-in-Some.field-0) c.get.ensures c.in_ok-value-in-Some.ensures.fits)

pub returns-in_ok-value-in-Some-clause-value : goal.returns-in_ok-value-in-Some-clause-value
returns-in_ok-value-in-Some-clause-value c =
    subst (λ o. is_value_perhaps c.args.columns.now c.args.variables.now o ≡ true → PerhapsIs o (Some c.in_ok-value-in-Some.field-0)) (sym c.in-Some.is)
    (subst (λ e. is_value_of c.args.columns.now c.args.variables.now e ≡ true → ExprIs e c.in_ok-value-in-Some.field-0) c.get.ensures c.in_ok-value-in-Some.ensures.value)
