-- Arguments of parameters: where one of the lists is spent, no pair is left.
use Rattle.std.proofs.Common.{ℕ, ◌≡◌, ◌≤◌, List, [], ◌∷◌, ◌++◌, length, drop, refl, ◌∙◌, ap, arith, ◌⊎◌, inl, inr}
use Rattle.std.specs.Prelude.{min}
use Rattle.std.proofs.lemmas.List.{append-nil, drop_all}
use Rattle.psm_scope.specs.declared.procedures.ParameterScope.{ParameterScope}
use Rattle.psm_tree.specs.declared.expr.Expr.{Expr}
use Rattle.psm_resolved.specs.declared.statement.ResolvedArgument.{ResolvedArgument}
use Rattle.psm_resolve_expr.specs.ResolverScope.{ResolverScope}
use Rattle.psm_resolve.specs.Statements.{arguments_of}

one_spent : (a b n : ℕ) → min a b ≤ n → (a ≤ n) ⊎ (b ≤ n)
one_spent a b n h = grind arith

none_for : (resolver_scope : ResolverScope) (parameters : List ParameterScope) → arguments_of resolver_scope parameters [] ≡ []
none_for resolver_scope [] = refl
none_for resolver_scope (p ∷ ps) = refl

no_arguments : (resolver_scope : ResolverScope) (parameters : List ParameterScope) (es : List Expr) (n : ℕ) → min (length parameters) (length es) ≤ n → arguments_of resolver_scope (drop n parameters) (drop n es) ≡ []
no_arguments resolver_scope parameters es n h = elim (one_spent (length parameters) (length es) n h) as (λ _. arguments_of resolver_scope (drop n parameters) (drop n es) ≡ []) [
  | inl a ↦ ap (λ l. arguments_of resolver_scope l (drop n es)) (drop_all n parameters a)
  | inr b ↦ ap (λ l. arguments_of resolver_scope (drop n parameters) l) (drop_all n es b) ∙ none_for resolver_scope (drop n parameters)
]

pub no_more_arguments : (resolver_scope : ResolverScope) (resolved : List ResolvedArgument) (parameters : List ParameterScope) (es : List Expr) (n : ℕ) → min (length parameters) (length es) ≤ n
    → resolved ++ arguments_of resolver_scope (drop n parameters) (drop n es) ≡ resolved
no_more_arguments resolver_scope resolved parameters es n h = ap (λ l. resolved ++ l) (no_arguments resolver_scope parameters es n h) ∙ append-nil resolved
