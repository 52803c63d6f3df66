-- Two lists whose items belong together.
use Rattle.std.proofs.Common.{◌≡◌, ◌<◌, ◌+◌, ℕ, zero, suc, List, [], ◌∷◌, ◌++◌, get_or, take, length, ap, subst, sym, ◌∙◌, arith}
use Rattle.std.proofs.Math.Seq.{take-suc}
use Rattle.psm_row_changes.specs.KeyTests.{Matched}

module _ {A B : Type 0} (P : A → B → Type 0) where
  pub matched-length : (xs : List A) (ys : List B) → Matched P xs ys → length xs ≡ length ys
  matched-length [] [] m = omega arith
  matched-length [] (y ∷ ys) m = absurd m
  matched-length (x ∷ xs) [] m = absurd m
  matched-length (x ∷ xs) (y ∷ ys) m = omega (arith, matched-length xs ys m.1)

  pub matched-at : (xs : List A) (ys : List B) (i : ℕ) (x : A) (y : B) → Matched P xs ys → i < length xs → x ≡ get_or xs i x → y ≡ get_or ys i y → P x y
  matched-at [] ys i x y m l e f = absurd (omega (arith, l))
  matched-at (a ∷ xs) [] i x y m l e f = absurd m
  matched-at (a ∷ xs) (b ∷ ys) zero x y m l e f = subst (λ z. P x z) (sym f) (subst (λ z. P z b) (sym e) m.0)
  matched-at (a ∷ xs) (b ∷ ys) (suc i) x y m l e f = matched-at xs ys i x y m.1 (omega (arith, l)) e f

  pub matched-last : (xs : List A) (ys : List B) (x : A) (y : B) → Matched P xs ys → P x y → Matched P (xs ++ x ∷ []) (ys ++ y ∷ [])
  matched-last [] [] x y m p = (p, tt)
  matched-last [] (b ∷ ys) x y m p = absurd m
  matched-last (a ∷ xs) [] x y m p = absurd m
  matched-last (a ∷ xs) (b ∷ ys) x y m p = (m.0, matched-last xs ys x y m.1 p)

  -- one more of them
  pub matched_more : (xs : List A) (ys more : List B) (i : ℕ) (x : A) (y : B) → i < length xs → x ≡ get_or xs i x → Matched P (take i xs) ys → P x y → more ≡ ys ++ y ∷ [] → Matched P (take (i + 1) xs) more
  matched_more xs ys more i x y l e m p f =
      let later : i + 1 ≡ suc i = omega arith in
      let longer : take (i + 1) xs ≡ take i xs ++ x ∷ [] = ap (λ k. take k xs) later ∙ take-suc xs i x l ∙ ap (λ k. take i xs ++ k ∷ []) (sym e) in
      subst (λ zs. Matched P (take (i + 1) xs) zs) (sym f) (subst (λ zs. Matched P zs (ys ++ y ∷ [])) (sym longer) (matched-last (take i xs) ys x y m p))
