-- Lines of a row expression that fit are well-formed, where the letter with which they end is due.
use Rattle.std.proofs.Common.{◌≡◌, Bool, true, List, [], ◌∷◌, Option, Some, None, ap, refl, ◌∙◌}
use Rattle.psm_exprcode.specs.declared.op.Letter.{Letter}
use Rattle.psm_exprcode.specs.declared.op.Line.{Line}
use Rattle.psm_exprcode.specs.WellFormed.{does_fit}
use Rattle.psm_code.specs.declared.rule.CodeRule.{CodeRule}
use Rattle.psm_code.specs.Instructions.{end_letter, or_number}
use Rattle.psm_code.specs.Rules.{first_of, unless}
use Rattle.psm_code.specs.TableRules.{expr_faults}
use Rattle.psm_code.proofs.ExprRules.{fits_clean}
use Rattle.psm_code.proofs.Faults.{Clean}
use Rattle.psm_code.proofs.OneEnd.{fit-known}
use Rattle.psm_codegen_wellformed.proofs.Faultless.{Faultless}

-- ---- rules that hold

pub none_unless : (b : Bool) (rule : CodeRule) → b ≡ true → unless b rule ≡ None
none_unless b rule h = ap (λ x. unless x rule) h

pub none_of-two : (a b : Bool) (p q : CodeRule) → a ≡ true → b ≡ true → first_of (unless a p ∷ unless b q ∷ []) ≡ None
none_of-two a b p q g h = ap (λ x. first_of (unless x p ∷ unless b q ∷ [])) g ∙ ap (λ x. first_of (unless x q ∷ [])) h

-- ---- lines

clean-faultless : (fs : List (Option CodeRule)) → Clean fs → Faultless fs
clean-faultless [] h = tt
clean-faultless (None ∷ fs) h = (refl, clean-faultless fs h)
clean-faultless (Some rule ∷ fs) h = absurd h

module _ (columns variables : List Letter) where
  pub fit-letter : (lines : List Line) (k : Letter) → does_fit columns variables lines k ≡ true → end_letter columns variables lines ≡ k
  fit-letter lines k h = ap or_number (fit-known columns variables lines k h)

  pub fit-faultless : (due : Letter → Bool) (lines : List Line) (k : Letter) → does_fit columns variables lines k ≡ true → due k ≡ true → Faultless (expr_faults columns variables due lines)
  fit-faultless due lines k h d = clean-faultless (expr_faults columns variables due lines) (fits_clean columns variables due lines k d h)
