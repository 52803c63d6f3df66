-- Blanks taken off one by one, at the front and at the end.
use Rattle.std.proofs.Common.{◌≡◌, ℕ, zero, suc, ◌+◌, ◌-◌, ◌<◌, List, [], ◌∷◌, ◌++◌, length, take, drop, refl, ap, sym, ◌∙◌, arith, Some}
use Rattle.std.specs.Prelude.{slice_get, replicate}
use Rattle.std.proofs.lemmas.List.{append_assoc, append-nil, replicate_more, length-take}
use Rattle.psm_text.specs.Order.{blank}

-- t is blanks and then left
abbrev pub Front : List ℕ → List ℕ → Type 0
Front t left = (blanks : ℕ) × (t ≡ replicate blanks blank ++ left)

-- t is left and then blanks
abbrev pub Back : List ℕ → List ℕ → Type 0
Back t left = (blanks : ℕ) × (t ≡ left ++ replicate blanks blank)

pub front_more : (t left next : List ℕ) → Front t left → slice_get left 0 ≡ Some blank → next ≡ drop 1 left → Front t next
front_more t [] next f h e = absurd (cc)
front_more t (x ∷ left) next f h e =
    let x_is : x ≡ 32 = cc in
    (f.0 + 1, f.1 ∙ ap (λ y. replicate f.0 32 ++ (y ∷ left)) x_is ∙ sym (append_assoc (replicate f.0 32) (32 ∷ []) left) ∙ ap (λ xs. xs ++ left) (replicate_more f.0 32) ∙ ap (λ xs. replicate (f.0 + 1) 32 ++ xs) (sym e))

last_is : (xs : List ℕ) (m y : ℕ) → length xs ≡ suc m → slice_get xs m ≡ Some y → xs ≡ take m xs ++ y ∷ []
last_is [] m y e h = absurd (omega (arith, e))
last_is (x ∷ []) zero y e h = let p : x ≡ y = cc in ap (λ z. z ∷ []) p
last_is (x ∷ w ∷ xs) zero y e h = absurd (omega (arith, e))
last_is (x ∷ xs) (suc m) y e h = ap (λ zs. x ∷ zs) (last_is xs m y (omega (arith, e)) h)

last_exists : (xs : List ℕ) (y : ℕ) → slice_get xs (length xs - 1) ≡ Some y → 0 < length xs
last_exists [] y h = absurd (cc)
last_exists (x ∷ xs) y h = omega arith

pub back_more : (t left next : List ℕ) → Back t left → slice_get left (length left - 1) ≡ Some blank → next ≡ take (length left - 1) left → Back t next
back_more t left next f h e =
    let some = last_exists left 32 h in
    let l : length left ≡ suc (length left - 1) = omega (arith, some) in
    (suc f.0, f.1 ∙ ap (λ xs. xs ++ replicate f.0 32) (last_is left (length left - 1) 32 l h ∙ ap (λ xs. xs ++ 32 ∷ []) (sym e)) ∙ append_assoc next (32 ∷ []) (replicate f.0 32))

pub shorter_front : (left next : List ℕ) → slice_get left 0 ≡ Some blank → next ≡ drop 1 left → length next < length left
shorter_front [] next h e = absurd (cc)
shorter_front (x ∷ left) next h e = omega (arith, ap length e)

pub shorter_back : (left next : List ℕ) → slice_get left (length left - 1) ≡ Some blank → next ≡ take (length left - 1) left → length next < length left
shorter_back left next h e = omega (arith, last_exists left 32 h, ap length e, length-take (length left - 1) left)

pub front_none : (t : List ℕ) → Front t t
front_none t = (0, refl)

pub back_none : (t : List ℕ) → Back t t
back_none t = (0, sym (append-nil t))
