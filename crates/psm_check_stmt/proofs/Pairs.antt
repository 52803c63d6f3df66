-- Faults of pairs of two lists.
use Rattle.std.proofs.Common.{ℕ, ◌≡◌, ◌≤◌, nat_eq, true, List, [], ◌∷◌, length, drop, refl, sym, ◌∙◌, ap, arith, ◌⊎◌, inl, inr}
use Rattle.std.specs.Prelude.{Option, Some, min, if◌then◌else◌}
use Rattle.std.proofs.lemmas.Bool.Decides.{nat_tests}
use Rattle.std.proofs.lemmas.List.{drop_all}
use Rattle.psm_value.specs.declared.sqltype.SqlType.{SqlType}
use Rattle.psm_scope.specs.declared.procedures.ParameterScope.{ParameterScope}
use Rattle.psm_tree.specs.declared.expr.Expr.{Expr}
use Rattle.psm_tree.specs.declared.name.Target.{Target}
use Rattle.psm_tree.specs.Names.{Targets}
use Rattle.psm_rules.specs.declared.fault.Fault.{Fault}
use Rattle.psm_rules.specs.declared.checked.Checked.{Checked}
use Rattle.psm_rules.specs.declared.query.Item.{Item}
use Rattle.psm_rules.specs.declared.shape.Shape.{Shape}
use Rattle.psm_rules.specs.declared.rule.Rule.TheVariants.{CountsDiffer}
use Rattle.psm_rules.specs.Faults.{breaks, earlier, first_of}
use Rattle.psm_rules.specs.StatementFaults.{arguments_fault, family_due, fetch_items, fetched_into, mixed_at, pairs_fault, several, sources_fault, target_type}
use Rattle.psm_rules.specs.CheckerScope.{Scopes, CheckerScope}
use Rattle.psm_rules.proofs.Earliest.{first_from_earlier}

-- ---- where one of the lists is spent, no pair is left

one_spent : (a b n : ℕ) → min a b ≤ n → (a ≤ n) ⊎ (b ≤ n)
one_spent a b n h = grind arith

no_pairs : {A B : Type 0} (f : List A → List B → List (Option Fault)) → ((ys : List B) → f [] ys ≡ []) → ((xs : List A) → f xs [] ≡ [])
    → (xs : List A) (ys : List B) (n : ℕ) → min (length xs) (length ys) ≤ n → f (drop n xs) (drop n ys) ≡ []
no_pairs f left right xs ys n h = elim (one_spent (length xs) (length ys) n h) as (λ _. f (drop n xs) (drop n ys) ≡ []) [
  | inl a ↦ ap (λ l. f l (drop n ys)) (drop_all n xs a) ∙ left (drop n ys)
  | inr b ↦ ap (λ l. f (drop n xs) l) (drop_all n ys b) ∙ right (drop n xs)
]

pub no_fetched : (scopes : Scopes) (ts : List Target) (shapes : List (Option Shape)) (n : ℕ) → min (length ts) (length shapes) ≤ n → fetched_into scopes (drop n ts) (drop n shapes) ≡ []
no_fetched scopes = no_pairs (fetched_into scopes) (λ ys. refl) right
  where
    right : (ts : List Target) → fetched_into scopes ts [] ≡ []
    right [] = refl
    right (t ∷ ts) = refl

pub no_items : (items : List Item) (kinds : List (Option SqlType)) (n : ℕ) → min (length items) (length kinds) ≤ n → pairs_fault (drop n items) (drop n kinds) ≡ []
no_items = no_pairs pairs_fault (λ ys. refl) right
  where
    right : (items : List Item) → pairs_fault items [] ≡ []
    right [] = refl
    right (i ∷ others) = refl

pub no_sources : (kinds : List (Option SqlType)) (values : List Checked) (n : ℕ) → min (length kinds) (length values) ≤ n → sources_fault (drop n kinds) (drop n values) ≡ []
no_sources = no_pairs sources_fault left (λ xs. refl)
  where
    left : (values : List Checked) → sources_fault [] values ≡ []
    left [] = refl
    left (v ∷ vs) = refl

pub no_arguments : (checker_scope : CheckerScope) (parameters : List ParameterScope) (es : List Expr) (n : ℕ) → min (length parameters) (length es) ≤ n → arguments_fault checker_scope (drop n parameters) (drop n es) ≡ []
no_arguments checker_scope = no_pairs (arguments_fault checker_scope) (λ ys. refl) right
  where
    right : (parameters : List ParameterScope) → arguments_fault checker_scope parameters [] ≡ []
    right [] = refl
    right (p ∷ ps) = refl

-- ---- the first pair

pub fetched_first : (scopes : Scopes) (targets : Targets) (shapes : List (Option Shape)) (s : Option Shape) (others : List (Option Shape)) (own more : Option Fault)
    → shapes ≡ s ∷ others → length others ≡ length targets.rest → own ≡ mixed_at targets.first.first.place (family_due (target_type scopes targets.first)) s
    → more ≡ first_of (fetched_into scopes targets.rest others) → earlier own more ≡ fetch_items scopes targets (Some shapes)
fetched_first scopes targets shapes s others own more e h p q =
    let first = mixed_at targets.first.first.place (family_due (target_type scopes targets.first)) s in
    let as_many : nat_eq (length (s ∷ others)) (length (several targets)) ≡ true = grind (arith, nat_tests) in
    ap (λ f. earlier f more) p ∙ ap (λ f. earlier first f) q ∙ sym (first_from_earlier first (fetched_into scopes targets.rest others))
    ∙ sym (ap (λ b. if b then first_of (fetched_into scopes (several targets) (s ∷ others)) else breaks CountsDiffer targets.first.first.place) as_many)
    ∙ ap (λ l. fetch_items scopes targets (Some l)) (sym e)
