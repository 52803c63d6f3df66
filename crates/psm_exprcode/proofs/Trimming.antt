-- A text that is trimmed at a side is the text without its blanks there.
use Rattle.std.proofs.Common.{◌≡◌, ◌≢◌, ℕ, zero, suc, ◌+◌, ◌-◌, List, [], ◌∷◌, ◌++◌, length, refl, ap, sym, ◌∙◌, arith, Some, length-append}
use Rattle.std.specs.Prelude.{slice_get, replicate, reverse, if◌then◌else◌}
use Rattle.std.proofs.lemmas.Bool.{ne_eqb}
use Rattle.std.proofs.lemmas.List.{reverse-append, reverse-reverse, replicate_more}
use Rattle.psm_text.specs.Order.{blank}
use Rattle.psm_text.specs.declared.parts.Side.{Side}
use Rattle.psm_text.specs.declared.parts.Side.TheVariants.{Leading, Trailing, Both}
use Rattle.psm_text.specs.Parts.{Trimmed, TrimmedFront, TrimmedEnd}
use Rattle.psm_value.specs.Cast.{without_front}
use Rattle.psm_exprcode.specs.Texts.{trim_of}

front_of : (n : ℕ) (r : List ℕ) → slice_get r 0 ≢ Some blank → without_front (replicate n blank ++ r) ≡ r
front_of zero [] h = refl
front_of zero (c ∷ r) h =
    let d : c ≢ 32 = λ e. h (ap (λ x. Some x) e) in
    ap (λ b. if b then without_front r else c ∷ r) (ne_eqb c 32 d)
front_of (suc n) r h = front_of n r h

front_is : (t r : List ℕ) → TrimmedFront t r → r ≡ without_front t
front_is t r h = sym (ap without_front h.parts ∙ front_of h.blanks r h.begins)

reverse-replicate : (n : ℕ) → reverse (replicate n blank) ≡ replicate n blank
reverse-replicate zero = refl
reverse-replicate (suc n) =
    let e : n + 1 ≡ suc n = omega arith in
    reverse-append (blank ∷ []) (replicate n blank) ∙ ap (λ u. u ++ blank ∷ []) (reverse-replicate n) ∙ replicate_more n blank ∙ ap (λ i. replicate i blank) e

last_of : (xs : List ℕ) (c : ℕ) → slice_get (xs ++ c ∷ []) (length xs) ≡ Some c
last_of [] c = refl
last_of (x ∷ xs) c = last_of xs c

last_index : (q : List ℕ) (c : ℕ) → length (q ++ c ∷ []) - 1 ≡ length q
last_index q c = omega (arith, length-append q (c ∷ []))

begins_turned : (q : List ℕ) → slice_get (reverse q) (length (reverse q) - 1) ≢ Some blank → slice_get q 0 ≢ Some blank
begins_turned [] h = h
begins_turned (c ∷ q) h = λ e. h (ends (reverse (c ∷ q)) (reverse-append (c ∷ []) q) e) where
  ends : (u : List ℕ) → u ≡ reverse q ++ c ∷ [] → Some c ≡ Some blank → slice_get u (length u - 1) ≡ Some blank
  ends u p e = ap (λ v. slice_get v (length v - 1)) p ∙ ap (λ i. slice_get (reverse q ++ c ∷ []) i) (last_index (reverse q) c) ∙ last_of (reverse q) c ∙ e

end_is : (t r : List ℕ) → TrimmedEnd t r → r ≡ reverse (without_front (reverse t))
end_is t r h =
    let turned : reverse t ≡ replicate h.blanks blank ++ reverse r =
    ap reverse h.parts ∙ reverse-append r (replicate h.blanks blank) ∙ ap (λ u. u ++ reverse r) (reverse-replicate h.blanks) in
    let ends : slice_get (reverse (reverse r)) (length (reverse (reverse r)) - 1) ≢ Some blank =
    λ e. h.ends (ap (λ u. slice_get u (length u - 1)) (sym (reverse-reverse r)) ∙ e) in
    sym (ap (λ u. reverse (without_front u)) turned ∙ ap reverse (front_of h.blanks (reverse r) (begins_turned (reverse r) ends)) ∙ reverse-reverse r)

pub trim_is : (side : Side) (t r : List ℕ) → Trimmed side t r → r ≡ trim_of side t
trim_is Leading t r h = front_is t r h
trim_is Trailing t r h = end_is t r h
trim_is Both t r h = end_is h.0 r h.2 ∙ ap (λ u. reverse (without_front (reverse u))) (front_is t h.0 h.1)
