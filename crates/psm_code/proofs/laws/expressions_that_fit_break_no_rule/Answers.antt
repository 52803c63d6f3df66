use Rattle.psm_code.specs.TableRules.{expr_faults}
use Rattle.psm_code.proofs.ExprRules.{clean_fits, fits_clean}
use Rattle.psm_code.proofs.Faults.{clean_of, none_of}
use Rattle.psm_code.proofs.laws.expressions_that_fit_break_no_rule.Goals as goal

pub returns : goal.returns
returns c columns variables due lines n = (
  λ e. clean_fits columns variables due lines (clean_of n (expr_faults columns variables due lines) e),
  λ f. none_of n (expr_faults columns variables due lines) (fits_clean columns variables due lines f.0 f.1 f.2),
)
