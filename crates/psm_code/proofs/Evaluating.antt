-- Expressions of well-formed code, over rows and variables of the letters that they see, end in values of the letters with which they end.
use Rattle.std.proofs.Common.{◌≡◌, Bool, true, List, ◌∷◌, refl, ap, sym, ◌∙◌, Some, None, Result, Ok, Err}
use Rattle.std.specs.Prelude.{IsSome}
use Rattle.psm_sqlstate.specs.declared.state.SqlState.{SqlState}
use Rattle.psm_value.specs.declared.datum.Datum.{Datum}
use Rattle.psm_exprcode.specs.declared.op.Letter.{Letter}
use Rattle.psm_exprcode.specs.declared.op.Letter.TheVariants.{N, T, B}
use Rattle.psm_exprcode.specs.declared.op.Line.{Line}
use Rattle.psm_exprcode.specs.declared.operand.Operand.{Operand}
use Rattle.psm_exprcode.specs.declared.operand.Operand.TheVariants.{Value, Truth}
use Rattle.psm_exprcode.specs.Evaluated.{evaluated, Outcome, TypeChecks}
use Rattle.psm_exprcode.specs.Kinds.{are_of, has_letter, is_of, is_truths, is_value}
use Rattle.psm_exprcode.specs.WellFormed.{does_fit}
use Rattle.psm_exprcode.proofs.Running.{evaluated_letter, evaluated_some}
use Rattle.psm_table.specs.Evaluator.{and_then, collected, mapped}
use Rattle.psm_tablecode.specs.Codes.{value_in}
use Rattle.psm_code.specs.Instructions.{end_letter, known_end, or_number}
use Rattle.psm_code.specs.TableRules.{expr_faults}
use Rattle.psm_code.proofs.ExprRules.{clean_fits}
use Rattle.psm_code.proofs.Faults.{Clean}
use Rattle.psm_code.proofs.OneEnd.{fit-known}

-- ---- expressions

-- the letter with which an expression ends
pub record Fits (columns variables : List Letter) (due : Letter → Bool) (lines : List Line) : Type 0 where
  pub end : Letter
  pub known : known_end columns variables lines ≡ Some end
  pub is_due : due end ≡ true
  pub fits : does_fit columns variables lines end ≡ true

pub expr_fits : (columns variables : List Letter) (due : Letter → Bool) (lines : List Line) → Clean (expr_faults columns variables due lines) → Fits columns variables due lines
expr_fits columns variables due lines h =
    let f = clean_fits columns variables due lines h in
    record { end = f.0; known = fit-known columns variables lines f.0 f.2; is_due = f.1; fits = f.2 }

-- its letter as the table of instructions has it
pub end_is : (columns variables : List Letter) (due : Letter → Bool) (lines : List Line) (f : Fits columns variables due lines) → end_letter columns variables lines ≡ f.end
end_is columns variables due lines f = ap or_number f.known

-- ---- values

not_both : (k : Letter) → is_value k ≡ true → is_truths k ≡ true → ⊥
not_both N v h = cc
not_both T v h = cc
not_both B v h = cc

value_by : (end : Letter) (o : Outcome) (d : Datum) → is_value end ≡ true → IsSome o → ((x : Operand) → o ≡ Some (Ok x) → is_of end x ≡ true) → value_in o ≡ Ok d → has_letter end d ≡ true
value_by end None d v s h e = absurd (cc)
value_by end (Some (Ok (Value x))) d v s h e = let same : x ≡ d = cc in ap (has_letter end) (sym same) ∙ h (Value x) refl
value_by end (Some (Ok (Truth t))) d v s h e = absurd (not_both end v (h (Truth t) refl))
value_by end (Some (Err state)) d v s h e = absurd (cc)

-- the value of an expression has the letter with which it ends
pub value_letter : (columns variables : List Letter) (row vars : List Datum) (lines : List Line) (end : Letter) (d : Datum) → are_of columns row ≡ true → are_of variables vars ≡ true → does_fit columns variables lines end ≡ true → is_value end ≡ true
    → value_in (evaluated lines row vars) ≡ Ok d → has_letter end d ≡ true
value_letter columns variables row vars lines end d r s f v e =
    let type_checks : TypeChecks lines row vars end = record { columns = columns; variables = variables; fits = f; row_kinds = r; variable_kinds = s } in
    value_by end (evaluated lines row vars) d v (evaluated_some lines row vars end type_checks) (λ x q. evaluated_letter lines row vars end x type_checks q) e

-- ---- values of each of some

-- what is taken first, and of the others
pub record Taken {A B : Type 0} (take : A → Result B SqlState) (a : A) (others : List A) (bs : List B) : Type 0 where
  pub first : B
  pub rest : List B
  pub is_first : take a ≡ Ok first
  pub is_rest : collected take others ≡ Ok rest
  pub same : first ∷ rest ≡ bs

taken_by : {A B : Type 0} (take : A → Result B SqlState) (a : A) (others : List A) (bs : List B) (x : Result B SqlState) (y : Result (List B) SqlState) → take a ≡ x → collected take others ≡ y
    → and_then x (λ b. mapped (λ bs. b ∷ bs) y) ≡ Ok bs → Taken take a others bs
taken_by take a others bs (Ok b) (Ok rest) p q e = record { first = b; rest = rest; is_first = p; is_rest = q; same = cc }
taken_by take a others bs (Ok b) (Err s) p q e = absurd (cc)
taken_by take a others bs (Err s) y p q e = absurd (cc)

pub taken : {A B : Type 0} (take : A → Result B SqlState) (a : A) (others : List A) (bs : List B) → collected take (a ∷ others) ≡ Ok bs → Taken take a others bs
taken take a others bs e = taken_by take a others bs (take a) (collected take others) refl refl e
