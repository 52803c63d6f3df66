-- A value among those that stand on it.
use Rattle.std.proofs.Common.{◌≡◌, ℕ, zero, suc, ◌+◌, ◌<◌, ◌≤◌, true, List, [], ◌∷◌, ◌++◌, length, take, drop, get_or, refl, ap, sym, ◌∙◌, arith, Ok, append_assoc, length-drop}
use Rattle.std.specs.Prelude.{reverse}
use Rattle.std.proofs.lemmas.List.{reverse-append, length-reverse, take-append-drop}
use Rattle.std.proofs.Math.Seq.{drop-append_seam, drop-cons}
use Rattle.psm_value.specs.declared.datum.Datum.{Datum}
use Rattle.psm_value.specs.declared.truth.Truth.{Truth as Answer}
use Rattle.psm_exprcode.specs.declared.operand.Operand.{Operand}
use Rattle.psm_exprcode.specs.declared.operand.Operand.TheVariants.{Value, Truth}
use Rattle.psm_exprcode.specs.Among.{data_in}
use Rattle.psm_exprcode.specs.Applied.{Applied, on_value, on_many, with_truth}
use Rattle.psm_exprcode.specs.Comparison.{among}
use Rattle.psm_exprcode.specs.Fits.{are_values}

enough_turned : (n : ℕ) (os : List Operand) → are_values n os ≡ true → n ≤ length os
enough_turned zero os h = omega arith
enough_turned (suc n) [] h = absurd (cc)
enough_turned (suc n) (Value a ∷ os) h = let e = enough_turned n os h in omega (arith, e)
enough_turned (suc n) (Truth t ∷ os) h = absurd (cc)

-- n values want n operands
pub enough : (n : ℕ) (items : List Operand) → are_values n (reverse items) ≡ true → n ≤ length items
enough n items h = let e : n ≤ length (reverse items) = enough_turned n (reverse items) h in omega (arith, e, length-reverse items)

-- the operands below the last n
pub below_is : (n p : ℕ) (items : List Operand) → p + n ≡ length items → drop n (reverse items) ≡ reverse (take p items)
below_is n p items e =
    let turned : reverse items ≡ reverse (drop p items) ++ reverse (take p items) =
    ap reverse (sym (take-append-drop p items)) ∙ reverse-append (take p items) (drop p items) in
    let many : n ≡ length (reverse (drop p items)) = omega (arith, length-reverse (drop p items), length-drop p items) in
    ap (λ k. drop k (reverse items)) many ∙ ap (λ u. drop (length (reverse (drop p items))) u) turned ∙ drop-append_seam (reverse (drop p items)) (reverse (take p items))

turned_at : (p : ℕ) (items : List Operand) (x : Operand) → p < length items → x ≡ get_or items p x
    → reverse items ≡ reverse (drop (p + 1) items) ++ (x ∷ reverse (take p items))
turned_at p items x h e =
    let next : suc p ≡ p + 1 = omega arith in
    let here : drop p items ≡ x ∷ drop (p + 1) items =
    drop-cons items p x h ∙ ap (λ y. y ∷ drop (suc p) items) (sym e) ∙ ap (λ k. x ∷ drop k items) next in
    ap reverse (sym (take-append-drop p items)) ∙ reverse-append (take p items) (drop p items)
    ∙ ap (λ u. reverse u ++ reverse (take p items)) here
    ∙ ap (λ u. u ++ reverse (take p items)) (reverse-append (x ∷ []) (drop (p + 1) items))
    ∙ append_assoc (reverse (drop (p + 1) items)) (x ∷ []) (reverse (take p items))

many_at : (n : ℕ) (f : List Datum → List Operand → Applied) (vs rest : List Operand) → length vs ≡ n → are_values n (vs ++ rest) ≡ true
    → on_many n f (vs ++ rest) ≡ f (data_in vs) rest
many_at zero f [] rest e h = refl
many_at zero f (o ∷ vs) rest e h = absurd (omega (arith, e))
many_at (suc n) f [] rest e h = absurd (omega (arith, e))
many_at (suc n) f (Value b ∷ vs) rest e h = many_at n (λ bs. f (b ∷ bs)) vs rest (omega (arith, e)) h
many_at (suc n) f (Truth t ∷ vs) rest e h = absurd (cc)

first_values : (n : ℕ) (os : List Operand) → are_values (suc n) os ≡ true → are_values n os ≡ true
first_values zero os h = refl
first_values (suc n) [] h = absurd (cc)
first_values (suc n) (Value b ∷ os) h = first_values n os h
first_values (suc n) (Truth t ∷ os) h = absurd (cc)

last_value : (n : ℕ) (vs rest : List Operand) → length vs ≡ n → are_values (suc n) (vs ++ rest) ≡ true → are_values 1 rest ≡ true
last_value zero [] rest e h = h
last_value zero (o ∷ vs) rest e h = absurd (omega (arith, e))
last_value (suc n) [] rest e h = absurd (omega (arith, e))
last_value (suc n) (Value b ∷ vs) rest e h = last_value n vs rest (omega (arith, e)) h
last_value (suc n) (Truth t ∷ vs) rest e h = absurd (cc)

above_many : (n p : ℕ) (items : List Operand) → p + suc n ≡ length items → length (reverse (drop (p + 1) items)) ≡ n
above_many n p items e = omega (arith, length-reverse (drop (p + 1) items), length-drop (p + 1) items)

-- the operand with n values on it is no truth value, where it has to be one of as many and one
pub no_truth : (n p : ℕ) (items : List Operand) (t : Answer) → p + suc n ≡ length items → Truth t ≡ get_or items p (Truth t)
    → are_values (suc n) (reverse items) ≡ true → ⊥
no_truth n p items t e g h =
    let turned = turned_at p items (Truth t) (omega (arith, e)) g in
    let shown : are_values (suc n) (reverse (drop (p + 1) items) ++ (Truth t ∷ reverse (take p items))) ≡ true = ap (λ u. are_values (suc n) u) (sym turned) ∙ h in
    let last : are_values 1 (Truth t ∷ reverse (take p items)) ≡ true = last_value n (reverse (drop (p + 1) items)) (Truth t ∷ reverse (take p items)) (above_many n p items e) shown in
    cc

-- IN of a value with n others on it
pub among_at : (n p : ℕ) (items : List Operand) (a : Datum) → p + suc n ≡ length items → Value a ≡ get_or items p (Value a)
    → are_values (suc n) (reverse items) ≡ true
    → on_many n (λ bs. on_value (λ a below. with_truth below (Ok (among a bs)))) (reverse items)
    ≡ with_truth (reverse (take p items)) (Ok (among a (data_in (reverse (drop (p + 1) items)))))
among_at n p items a e g h =
    let turned = turned_at p items (Value a) (omega (arith, e)) g in
    let shown : are_values n (reverse (drop (p + 1) items) ++ (Value a ∷ reverse (take p items))) ≡ true =
    ap (λ u. are_values n u) (sym turned) ∙ first_values n (reverse items) h in
    ap (λ u. on_many n (λ bs. on_value (λ a below. with_truth below (Ok (among a bs)))) u) turned
    ∙ many_at n (λ bs. on_value (λ a below. with_truth below (Ok (among a bs)))) (reverse (drop (p + 1) items)) (Value a ∷ reverse (take p items)) (above_many n p items e) shown
