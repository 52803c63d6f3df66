-- The test of a pattern, and the answer to LIKE.
use Rattle.std.proofs.Common.{◌≡◌, ℕ, zero, suc, List, [], ◌∷◌, drop, Bool, true, false, ◌||◌, nat_eq, Option, Result, Ok, Err, refl, ap, sym, subst, ◌∙◌, eq-eqb, eqb-true}
use Rattle.std.specs.Prelude.{if◌then◌else◌}
use Rattle.std.proofs.Math.Seq.{drop-nil}
use Rattle.psm_text.specs.declared.fault.TextFault.{TextFault}
use Rattle.psm_text.specs.declared.fault.TextFault.TheVariants.{TooLong, Substring, EscapeChar, EscapePair, Lost, Memory}
use Rattle.psm_text.specs.Like.{Liked, Matches, Item, Literal, One, Any, items_of}
use Rattle.psm_value.specs.declared.fault.ValueFault.{ValueFault}
use Rattle.psm_value.specs.declared.truth.Truth.{Truth}
use Rattle.psm_value.specs.TextFaults.{state_of, fault_of}
use Rattle.psm_value.specs.Answer.{Gives}
use Rattle.psm_exprcode.specs.Comparison.{truth_of}
use Rattle.psm_exprcode.specs.Values.{as_truth}
use Rattle.psm_exprcode.specs.Texts.{like_of, matches, is_later}

later_at : (f : List ℕ → Bool) (t : List ℕ) → is_later f t ≡ true → (k : ℕ) × (f (drop k t) ≡ true)
later_at f [] h = (0, h)
later_at f (c ∷ t) h = by (f (c ∷ t)) refl (later_at f t) where
  by : (b : Bool) → f (c ∷ t) ≡ b → (is_later f t ≡ true → (k : ℕ) × (f (drop k t) ≡ true)) → (k : ℕ) × (f (drop k (c ∷ t)) ≡ true)
  by true e more = (0, e)
  by false e more = let m = more (sym (ap (λ b. b || is_later f t) e) ∙ h) in (suc m.0, m.1)

or_second : (b : Bool) → (b || true) ≡ true
or_second true = refl
or_second false = refl

later_from : (f : List ℕ → Bool) (t : List ℕ) (k : ℕ) → f (drop k t) ≡ true → is_later f t ≡ true
later_from f [] k h = ap f (sym (drop-nil k)) ∙ h
later_from f (c ∷ t) zero h = ap (λ b. b || is_later f t) h
later_from f (c ∷ t) (suc k) h = ap (λ b. f (c ∷ t) || b) (later_from f t k h) ∙ or_second (f (c ∷ t))

matches_so : (p : List Item) (t : List ℕ) → matches p t ≡ true → Matches p t
matches_so [] [] h = tt
matches_so [] (c ∷ t) h = absurd (cc)
matches_so (Any ∷ p) t h = let m = later_at (matches p) t h in (m.0, matches_so p (drop m.0 t) m.1)
matches_so (One ∷ p) [] h = absurd (cc)
matches_so (One ∷ p) (c ∷ t) h = matches_so p t h
matches_so (Literal d ∷ p) [] h = absurd (cc)
matches_so (Literal d ∷ p) (c ∷ t) h = by (nat_eq c d) refl (matches_so p t) where
  by : (b : Bool) → nat_eq c d ≡ b → (matches p t ≡ true → Matches p t) → (c ≡ d) × Matches p t
  by true e more = (eqb-true c d e, more (sym (ap (λ b. if b then matches p t else false) e) ∙ h))
  by false e more = let f = sym (ap (λ b. if b then matches p t else false) e) ∙ h in absurd (cc)

matches_from : (p : List Item) (t : List ℕ) → Matches p t → matches p t ≡ true
matches_from [] [] h = refl
matches_from [] (c ∷ t) h = absurd h
matches_from (Any ∷ p) t h = later_from (matches p) t h.0 (matches_from p (drop h.0 t) h.1)
matches_from (One ∷ p) [] h = absurd h
matches_from (One ∷ p) (c ∷ t) h = matches_from p t h
matches_from (Literal d ∷ p) [] h = absurd h
matches_from (Literal d ∷ p) (c ∷ t) h = ap (λ b. if b then matches p t else false) (eq-eqb c d h.0) ∙ matches_from p t h.1

liked_is : (e : Result (Option ℕ) TextFault) (pattern t : List ℕ) (r : Result Bool TextFault) → Liked e pattern t r → like_of e pattern t ≡ r
liked_is (Err fault) pattern t r h = sym h
liked_is (Ok e) pattern t (Err fault) h =
    ap (λ b. if b then Ok (matches (items_of e pattern) t) else Err EscapePair) h.1 ∙ ap (λ f. Err f) (sym h.0)
liked_is (Ok e) pattern t (Ok true) h =
    ap (λ b. if b then Ok (matches (items_of e pattern) t) else Err EscapePair) h.0
    ∙ ap (λ b. Ok b) (matches_from (items_of e pattern) t (h.1.0 refl))
liked_is (Ok e) pattern t (Ok false) h =
    ap (λ b. if b then Ok (matches (items_of e pattern) t) else Err EscapePair) h.0
    ∙ ap (λ b. Ok b) (by (matches (items_of e pattern) t) refl) where
      by : (b : Bool) → matches (items_of e pattern) t ≡ b → b ≡ false
      by true k = let f : false ≡ true = h.1.1 (matches_so (items_of e pattern) t k) in sym f
      by false k = refl

pub liked_ok : (e : Result (Option ℕ) TextFault) (pattern t : List ℕ) (b : Bool) → Liked e pattern t (Ok b) → as_truth (like_of e pattern t) ≡ Ok (truth_of b)
liked_ok e pattern t b h = ap as_truth (liked_is e pattern t (Ok b) h)

faulted : (expected : Result Truth (List ℕ)) (fault : TextFault) → expected ≡ Err (state_of fault) → Gives expected (Err (fault_of fault))
faulted expected TooLong h = h
faulted expected Substring h = h
faulted expected EscapeChar h = h
faulted expected EscapePair h = h
faulted expected Lost h = h
faulted expected Memory h = tt

pub liked_err : (e : Result (Option ℕ) TextFault) (pattern t : List ℕ) (fault : TextFault) (v : ValueFault) → Liked e pattern t (Err fault) → v ≡ fault_of fault
    → Gives (as_truth (like_of e pattern t)) (Err v)
liked_err e pattern t fault v h k =
    let P : ValueFault → Type 0 = λ w. Gives (as_truth (like_of e pattern t)) (Err w) in
    subst P (sym k) (faulted (as_truth (like_of e pattern t)) fault (ap as_truth (liked_is e pattern t (Err fault) h)))
