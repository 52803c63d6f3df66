-- Faults of pairs of two lists: where one of them is spent, no pair is left.
use Rattle.std.proofs.Common.{ℕ, ◌≡◌, ◌≤◌, nat_eq, true, List, [], ◌∷◌, length, drop, refl, sym, ◌∙◌, ap, arith, ◌⊎◌, inl, inr}
use Rattle.std.specs.Prelude.{Option, Some, min, if◌then◌else◌}
use Rattle.std.proofs.lemmas.Bool.Decides.{nat_tests}
use Rattle.std.proofs.lemmas.List.{drop_all}
use Rattle.psm_list.specs.Several.{Several}
use Rattle.psm_value.specs.declared.sqltype.SqlType.{SqlType}
use Rattle.psm_scope.specs.declared.procedures.ParameterScope.{ParameterScope}
use Rattle.psm_tree.specs.declared.script.Argument.{Argument}
use Rattle.psm_tree.specs.declared.types.Constant.{Constant}
use Rattle.psm_rules.specs.declared.fault.Fault.{Fault}
use Rattle.psm_rules.specs.declared.rule.Rule.TheVariants.{CountsDiffer}
use Rattle.psm_rules.specs.Faults.{breaks, earlier, first_of}
use Rattle.psm_rules.specs.StatementFaults.{several}
use Rattle.psm_rules.proofs.Earliest.{first_from_earlier}
use Rattle.psm_check_script.specs.ScriptFaults.{arguments_fault, constant_fault, constants_fault, values_fault}

one_spent : (a b n : ℕ) → min a b ≤ n → (a ≤ n) ⊎ (b ≤ n)
one_spent a b n h = grind arith

no_pairs : {A B : Type 0} (f : List A → List B → List (Option Fault)) → ((ys : List B) → f [] ys ≡ []) → ((xs : List A) → f xs [] ≡ [])
    → (xs : List A) (ys : List B) (n : ℕ) → min (length xs) (length ys) ≤ n → f (drop n xs) (drop n ys) ≡ []
no_pairs f left right xs ys n h = elim (one_spent (length xs) (length ys) n h) as (λ _. f (drop n xs) (drop n ys) ≡ []) [
  | inl a ↦ ap (λ l. f l (drop n ys)) (drop_all n xs a) ∙ left (drop n ys)
  | inr b ↦ ap (λ l. f (drop n xs) l) (drop_all n ys b) ∙ right (drop n xs)
]

pub no_arguments : (parameters : List ParameterScope) (given : List Argument) (n : ℕ) → min (length parameters) (length given) ≤ n → arguments_fault (drop n parameters) (drop n given) ≡ []
no_arguments = no_pairs arguments_fault (λ ys. refl) right
  where
    right : (parameters : List ParameterScope) → arguments_fault parameters [] ≡ []
    right [] = refl
    right (p ∷ ps) = refl

pub no_constants : (types : List (Option SqlType)) (values : List Constant) (n : ℕ) → min (length types) (length values) ≤ n → constants_fault (drop n types) (drop n values) ≡ []
no_constants = no_pairs constants_fault (λ ys. refl) right
  where
    right : (types : List (Option SqlType)) → constants_fault types [] ≡ []
    right [] = refl
    right (t ∷ ts) = refl

-- ---- the first pair

pub values_first : (values : Several Constant) (types : List (Option SqlType)) (t : Option SqlType) (others : List (Option SqlType)) (own more : Option Fault)
    → types ≡ t ∷ others → length others ≡ length values.rest → own ≡ constant_fault t values.first
    → more ≡ first_of (constants_fault others values.rest) → earlier own more ≡ values_fault (Some types) values
values_first values types t others own more e h p q =
    let first = constant_fault t values.first in
    let as_many : nat_eq (length (t ∷ others)) (length (several values)) ≡ true = grind (arith, nat_tests) in
    ap (λ f. earlier f more) p ∙ ap (λ f. earlier first f) q ∙ sym (first_from_earlier first (constants_fault others values.rest))
    ∙ sym (ap (λ b. if b then first_of (constants_fault (t ∷ others) (several values)) else breaks CountsDiffer values.first.place) as_many)
    ∙ ap (λ l. values_fault (Some l) values) (sym e)
