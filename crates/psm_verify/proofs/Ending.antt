-- The first fault, and what is known of a routine before its lines are looked at.
use Rattle.std.proofs.Common.{◌≡◌, ℕ, suc, List, [], ◌∷◌, map, refl, ap, subst, ◌∙◌, Option, Some, None, Ok, Err}
use Rattle.std.specs.Prelude.{option_map, slice_get}
use Rattle.std.proofs.lemmas.Option.{slice_get-map}
use Rattle.psm_exprcode.specs.declared.op.Letter.{Letter}
use Rattle.psm_exprcode.specs.declared.query.Query.{Query}
use Rattle.psm_code.specs.declared.code.CodeTable.{CodeTable}
use Rattle.psm_code.specs.declared.code.RawCode.{RawCode}
use Rattle.psm_code.specs.declared.code.RawRoutine.{RawRoutine}
use Rattle.psm_code.specs.declared.rule.CodeRule.{CodeRule}
use Rattle.psm_code.specs.Instructions.{column_letters, columns_of_table, item_letters, letters_of_query, variables_of}
use Rattle.psm_code.specs.Rules.{fault_in}
use Rattle.psm_verify.specs.declared.fault.CodeFault.{CodeFault}
use Rattle.psm_verify.specs.Checked.{Finds, checked}
use Rattle.psm_verify.specs.declared.fault.Stop.{Stop}
use Rattle.psm_verify.specs.declared.fault.Stop.TheVariants.{Fault}
use Rattle.psm_verify.specs.VerifyContext.{letters_with, listed}

pub all_right : (rs : List (Option CodeRule)) (n m : ℕ) → checked n rs ≡ Ok m → fault_in n rs ≡ None
all_right [] n m h = refl
all_right (None ∷ rs) n m h = all_right rs (suc n) m h
all_right (Some r ∷ rs) n m h = absurd (cc)

pub first_wrong : (rs : List (Option CodeRule)) (n : ℕ) (f : CodeFault) → checked n rs ≡ Err f → fault_in n rs ≡ Some (f.line, f.rule)
first_wrong [] n f h = absurd (cc)
first_wrong (None ∷ rs) n f h = first_wrong rs (suc n) f h
first_wrong (Some r ∷ rs) n f h = let e : record { line = n; rule = r } ≡ f = cc in ap (λ g. Some (g.line, g.rule)) e

listed_is : (o : Option CodeTable) → listed (option_map column_letters o) ≡ columns_of_table o
listed_is None = refl
listed_is (Some t) = refl

one_is : (code : RawCode) (r : RawRoutine) (columns : List (List Letter)) (variables : List Letter) (q : Query)
    → columns ≡ map column_letters code.tables → variables ≡ variables_of r → letters_with columns variables q ≡ letters_of_query code r q
one_is code r columns variables q c v =
    ap (λ cs. letters_with cs variables q) c ∙ ap (λ vs. letters_with (map column_letters code.tables) vs q) v
    ∙ ap (λ o. item_letters (listed o) (variables_of r) q.items) (slice_get-map column_letters code.tables q.table)
    ∙ ap (λ ls. item_letters ls (variables_of r) q.items) (listed_is (slice_get code.tables q.table))

each_is : (code : RawCode) (r : RawRoutine) (columns : List (List Letter)) (variables : List Letter) (qs : List Query)
    → columns ≡ map column_letters code.tables → variables ≡ variables_of r → map (letters_with columns variables) qs ≡ map (letters_of_query code r) qs
each_is code r columns variables [] c v = refl
each_is code r columns variables (q ∷ qs) c v =
    ap (λ l. l ∷ map (letters_with columns variables) qs) (one_is code r columns variables q c v) ∙ ap (λ ls. letters_of_query code r q ∷ ls) (each_is code r columns variables qs c v)

pub items_known : (code : RawCode) (r : RawRoutine) (columns : List (List Letter)) (variables : List Letter) (qs : List Query) (items : List (List Letter))
    → columns ≡ map column_letters code.tables → variables ≡ variables_of r → qs ≡ r.queries → items ≡ map (letters_with columns variables) qs → items ≡ map (letters_of_query code r) r.queries
items_known code r columns variables qs items c v q h = h ∙ each_is code r columns variables qs c v ∙ ap (map (letters_of_query code r)) q

pub fault_found : (rs : List (Option CodeRule)) (n : ℕ) (s : Stop) (f : CodeFault) → s ≡ Fault f → Finds (checked n rs) (Err s) → fault_in n rs ≡ Some (f.line, f.rule)
fault_found rs n s f e h = first_wrong rs n f (subst (λ t. Finds (checked n rs) (Err t)) e h)
