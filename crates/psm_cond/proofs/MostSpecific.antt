-- What holds of the choice of a handler.
use Rattle.std.proofs.Common.{◌≡◌, ℕ, zero, suc, ◌<◌, ◌≤◌, Bool, true, false, ◌&&◌, nat_lt, nat_le, List, [], ◌∷◌, refl, ap, sym, ◌∙◌, subst, arith}
use Rattle.std.specs.Prelude.{◌↔◌, slice_index_or, Option, Some, None, if◌then◌else◌}
use Rattle.std.specs.List.{All, Contains}
use Rattle.psm_cond.specs.Choice.{HasNoMatch, IsMostSpecific, highest, chosen, chosen_in, or_else}
use Rattle.psm_cond.specs.Handlers.{Numbered}
use Rattle.psm_cond.proofs.Choices.{none_chosen}

abbrev the_one : {A : Type 0} → A → Option A → A
the_one d None = d
the_one d (Some x) = x

-- the test of the first handler of a scope
abbrev leads : (Numbered → ℕ) → Numbered → List Numbered → Bool
leads rank x xs = nat_lt 0 (rank x) && nat_le (highest rank xs) (rank x)

-- ---- a scope that has a match

record IsHighest (rank : Numbered → ℕ) (scope : List Numbered) (h : Numbered) : Type 0 where
  there : Contains scope h
  matches : 0 < rank h
  most : rank h ≡ highest rank scope

further : (x h : Numbered) (xs : List Numbered) → Contains xs h → Contains (x ∷ xs) h
further x h xs c = (suc c.0, omega (arith, c.1), c.2)

leading : (rank : Numbered → ℕ) (x : Numbered) (xs : List Numbered) → leads rank x xs ≡ true → IsHighest rank (x ∷ xs) x
leading rank x xs q = record { there = (0, omega arith, refl); matches = grind (arith, q); most = grind (arith, q) }

by_test : (rank : Numbered → ℕ) (x h : Numbered) (xs : List Numbered) (test : Bool) → leads rank x xs ≡ test
    → (if test then Some x else chosen_in rank xs) ≡ Some h → (chosen_in rank xs ≡ Some h → IsHighest rank xs h) → IsHighest rank (x ∷ xs) h
by_test rank x h xs true q e rec = subst (λ y. IsHighest rank (x ∷ xs) y) (ap (the_one x) e) (leading rank x xs q)
by_test rank x h xs false q e rec =
    let r = rec e in
    let m : rank h ≡ highest rank xs = r.most in
    let p : 0 < rank h = r.matches in
    record { there = further x h xs r.there; matches = r.matches; most = grind (arith, q, m, p) }

highest_chosen : (rank : Numbered → ℕ) (scope : List Numbered) (h : Numbered) → chosen_in rank scope ≡ Some h → IsHighest rank scope h
highest_chosen rank [] h e = cc
highest_chosen rank (x ∷ xs) h e = by_test rank x h xs (leads rank x xs) refl e (λ e. highest_chosen rank xs h e)

none_above : (rank : Numbered → ℕ) (scope : List Numbered) → All (λ h. rank h ≤ highest rank scope) scope
none_above rank [] k d lt = absurd (omega (arith, lt))
none_above rank (x ∷ xs) zero d lt = grind arith
none_above rank (x ∷ xs) (suc k) d lt =
    let r : rank (slice_index_or xs k d) ≤ highest rank xs = none_above rank xs k d (omega (arith, lt)) in
    grind (arith, r)

pub most_specific : (rank : Numbered → ℕ) (scope : List Numbered) (h : Numbered) → chosen_in rank scope ≡ Some h → IsMostSpecific rank scope h
most_specific rank scope h e =
    let r = highest_chosen rank scope h e in
    record { there = r.there; matches = r.matches; most = subst (λ n. All (λ other. rank other ≤ n) scope) (sym r.most) (none_above rank scope) }

-- ---- a scope that has none

none_highest : (rank : Numbered → ℕ) (scope : List Numbered) → chosen_in rank scope ≡ None → highest rank scope ≡ 0
none_highest rank [] e = refl
none_highest rank (x ∷ xs) e = grind (arith, e, none_highest rank xs)

no_match_highest : (rank : Numbered → ℕ) (scope : List Numbered) → HasNoMatch rank scope → highest rank scope ≡ 0
no_match_highest rank [] h = refl
no_match_highest rank (x ∷ xs) h =
    let first : rank x ≡ 0 = h 0 x (omega arith) in
    let others : highest rank xs ≡ 0 = no_match_highest rank xs (λ k d lt. h (suc k) d (omega (arith, lt))) in
    grind (arith, first, others)

pub no_match : (rank : Numbered → ℕ) (scope : List Numbered) → (chosen_in rank scope ≡ None) ↔ HasNoMatch rank scope
no_match rank scope = (
  (λ e k d lt.
      let z : highest rank scope ≡ 0 = none_highest rank scope e in
      let r : rank (slice_index_or scope k d) ≤ highest rank scope = none_above rank scope k d lt in
      omega (arith, z, r)),
  (λ h. none_chosen rank scope (no_match_highest rank scope h)),
)

-- ---- scope by scope

pub inner : (rank : Numbered → ℕ) (scope : List Numbered) (outer : List (List Numbered)) (h : Numbered) → chosen_in rank scope ≡ Some h
    → chosen rank (scope ∷ outer) ≡ Some h
inner rank scope outer h e = ap (λ o. or_else o (chosen rank outer)) e

pub further_out : (rank : Numbered → ℕ) (scope : List Numbered) (outer : List (List Numbered)) → HasNoMatch rank scope
    → chosen rank (scope ∷ outer) ≡ chosen rank outer
further_out rank scope outer h = ap (λ o. or_else o (chosen rank outer)) ((no_match rank scope).1 h)

neither : (a b : Option Numbered) → or_else a b ≡ None → (a ≡ None) × (b ≡ None)
neither None b e = (refl, e)
neither (Some x) b e = cc

nowhere : (rank : Numbered → ℕ) (all : List (List Numbered)) → chosen rank all ≡ None → All (HasNoMatch rank) all
nowhere rank [] e k d lt = absurd (omega (arith, lt))
nowhere rank (scope ∷ outer) e zero d lt = (no_match rank scope).0 (neither (chosen_in rank scope) (chosen rank outer) e).0
nowhere rank (scope ∷ outer) e (suc k) d lt = nowhere rank outer (neither (chosen_in rank scope) (chosen rank outer) e).1 k d (omega (arith, lt))

none_of_all : (rank : Numbered → ℕ) (all : List (List Numbered)) → All (HasNoMatch rank) all → chosen rank all ≡ None
none_of_all rank [] h = refl
none_of_all rank (scope ∷ outer) h =
    further_out rank scope outer (h 0 scope (omega arith)) ∙ none_of_all rank outer (λ k d lt. h (suc k) d (omega (arith, lt)))

pub no_match_anywhere : (rank : Numbered → ℕ) (all : List (List Numbered)) → (chosen rank all ≡ None) ↔ All (HasNoMatch rank) all
no_match_anywhere rank all = (nowhere rank all, none_of_all rank all)
