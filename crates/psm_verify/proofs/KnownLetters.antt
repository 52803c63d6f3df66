-- Known letters of columns and variables: expressions over them, the items for columns, and the letters of a routine's variables.
use Rattle.std.proofs.Common.{◌≡◌, ℕ, Bool, true, false, ◌&&◌, List, [], ◌∷◌, Option, Some, None, refl, ap, ◌∙◌}
use Rattle.std.specs.Prelude.{map, ◌++◌, slice_get}
use Rattle.psm_exprcode.specs.declared.op.Letter.{Letter}
use Rattle.psm_exprcode.specs.declared.op.Line.{Line}
use Rattle.psm_exprcode.specs.Kinds.{is_letter, letter_of}
use Rattle.psm_value.specs.declared.sqltype.SqlType.{SqlType}
use Rattle.psm_code.specs.declared.code.Parameter.{Parameter}
use Rattle.psm_code.specs.declared.code.RawCode.{RawCode}
use Rattle.psm_code.specs.declared.code.RawRoutine.{RawRoutine}
use Rattle.psm_code.specs.Instructions.{columns_at, letters_at, parameter_letters, variables_of, with_letter}
use Rattle.psm_code.specs.PlanRules.{are_items, expr_in}
use Rattle.psm_code.specs.TableRules.{expr_faults}
use Rattle.psm_verify.specs.declared.calls.Call.{Call}
use Rattle.psm_verify.specs.VerifyContext.{Known, fits_column}

pub expr_in_is : (code : RawCode) (r : RawRoutine) (letters : List (List Letter)) (variables columns : List Letter) (items : List (List Letter)) (rows : List (Option (List Letter))) (calls : List Call) (table : ℕ) (due : Letter → Bool) (lines : List Line)
    → Known code r letters variables items rows calls → columns ≡ columns_at code table → expr_faults columns variables due lines ≡ expr_in code r table due lines
expr_in_is code r letters variables columns items rows calls table due lines k e =
    ap (λ c. expr_faults c variables due lines) e ∙ ap (λ v. expr_faults (columns_at code table) v due lines) k.variables_are

-- ---- items for columns

pub items_first : (letters : List Letter) (c : ℕ) (cs : List ℕ) (i : Letter) (items : List Letter)
    → are_items (letters_at letters (c ∷ cs)) (i ∷ items) ≡ (fits_column (slice_get letters c) i && are_items (letters_at letters cs) items)
items_first letters c cs i items = by (slice_get letters c) (letters_at letters cs) where
  last : (b : Bool) → false ≡ (b && false)
  last true = refl
  last false = refl

  by : (m : Option Letter) (ls : Option (List Letter)) → are_items (with_letter m ls) (i ∷ items) ≡ (fits_column m i && are_items ls items)
  by None ls = refl
  by (Some l) None = last (is_letter l i)
  by (Some l) (Some ls) = refl

pub items_end : (letters : List Letter) (c : ℕ) (cs : List ℕ) → are_items (letters_at letters (c ∷ cs)) [] ≡ false
items_end letters c cs = by (slice_get letters c) (letters_at letters cs) where
  by : (m : Option Letter) (ls : Option (List Letter)) → are_items (with_letter m ls) [] ≡ false
  by None ls = refl
  by (Some l) None = refl
  by (Some l) (Some ls) = refl

-- ---- variables

kinds_is : (ps : List Parameter) (vs : List SqlType) → map (λ p. letter_of p.kind) ps ++ map letter_of vs ≡ map letter_of (map (λ p. p.kind) ps ++ vs)
kinds_is [] vs = refl
kinds_is (p ∷ ps) vs = ap (λ ls. letter_of p.kind ∷ ls) (kinds_is ps vs)

pub variables_are : (r : RawRoutine) (ps : List Parameter) (vs : List SqlType) (first letters : List Letter) → ps ≡ r.parameters → vs ≡ r.variables → first ≡ parameter_letters ps → letters ≡ first ++ map letter_of vs → letters ≡ variables_of r
variables_are r ps vs first letters p v f h =
    h ∙ ap (λ xs. xs ++ map letter_of vs) f ∙ kinds_is ps vs ∙ ap (λ xs. map letter_of (map (λ q. q.kind) xs ++ vs)) p ∙ ap (λ xs. map letter_of (map (λ q. q.kind) r.parameters ++ xs)) v
