-- Counts of a name in a list of names.
use Rattle.std.proofs.Common.{◌≡◌, ◌≢◌, ◌∙◌, ap, sym, refl, add-zero, ℕ, ◌+◌, nat_eq, Bool, true, false, cond, List, [], ◌∷◌, ◌++◌, arith}
use Rattle.std.specs.Cmp.Lexicographic.{pointwise}
use Rattle.std.proofs.lemmas.Slice.Eq.{bytes_eq-Decides}
use Rattle.std.proofs.lemmas.List.Sums.{sum_by-append}
use Rattle.psm_io.specs.Failures.{times}

pub times-append : (name : List ℕ) (names : List (List ℕ)) (one : List ℕ) →
    times name (names ++ one ∷ []) ≡ times name names + cond (pointwise nat_eq one name) 1 0
times-append name names one = grind (arith, sum_by-append)

pub times-append_same : (name : List ℕ) (names : List (List ℕ)) → times name (names ++ name ∷ []) ≡ times name names + 1
times-append_same name names = times-append name names name
    ∙ ap (λ b. times name names + cond b 1 0) ((bytes_eq-Decides name name).1 (refl))

cond-zero : (b : Bool) → (b ≡ true → ⊥) → ◌≡◌ {A = ℕ} (cond b 1 0) 0
cond-zero true never = absurd (never refl)
cond-zero false _ = refl

pub times-append_other : (name : List ℕ) (names : List (List ℕ)) (one : List ℕ) → name ≢ one →
    times name (names ++ one ∷ []) ≡ times name names
times-append_other name names one ne = times-append name names one
    ∙ ap (λ n. times name names + n) (cond-zero (pointwise nat_eq one name) (λ same. ne (sym ((bytes_eq-Decides one name).0 same))))
    ∙ add-zero (times name names)

pub ruleset counts = (times-append_same, times-append_other)
