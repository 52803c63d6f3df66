-- Keys compared value by value.
use Rattle.std.proofs.Common.{◌≡◌, ℕ, zero, suc, ◌+◌, ◌<◌, ◌≤◌, ◌^◌, ◌*ℤ◌, pos, List, [], ◌∷◌, length, get_or, drop, refl, ap, sym, ◌∙◌, add-one, arith}
use Rattle.std.specs.Prelude.{min, slice_index_or}
use Rattle.std.specs.declared.cmp.Ordering.{Ordering}
use Rattle.std.specs.declared.cmp.Ordering.TheVariants.{Less, Equal, Greater}
use Rattle.std.specs.Ordering.{int_cmp, ordering_then, nat_cmp}
use Rattle.std.proofs.lemmas.Bool.Decides.{nat_tests}
use Rattle.psm_num.specs.Num.{Num}
use Rattle.psm_num.specs.Order.{order}
use Rattle.psm_num.proofs.OrderLaws.{int_cmp-times}
use Rattle.psm_num.proofs.Powers.{power_pos}
use Rattle.psm_value.specs.declared.datum.Datum.{Datum}
use Rattle.psm_value.specs.Order.{data_order}
use Rattle.psm_table.specs.Key.{key_order}
use Rattle.psm_table.specs.Map.{prefix_order}

key_order-drop_suc : (a b : List Datum) (i : ℕ) (d : Datum) → i < length a → i < length b
    → key_order (drop i a) (drop i b) ≡ ordering_then (data_order (get_or a i d) (get_or b i d)) (key_order (drop (suc i) a) (drop (suc i) b))
key_order-drop_suc [] b i d l m = absurd (omega arith)
key_order-drop_suc (x ∷ a) [] i d l m = absurd (omega arith)
key_order-drop_suc (x ∷ a) (y ∷ b) zero d l m = refl
key_order-drop_suc (x ∷ a) (y ∷ b) (suc i) d l m = key_order-drop_suc a b i d (omega arith) (omega arith)

-- the values at index i decide, and else what follows them does
pub key_order-drop : (a b : List Datum) (i : ℕ) (d : Datum) → i < length a → i < length b
    → key_order (drop i a) (drop i b) ≡ ordering_then (data_order (get_or a i d) (get_or b i d)) (key_order (drop (i + 1) a) (drop (i + 1) b))
key_order-drop a b i d l m = rw add-one (key_order-drop_suc a b i d l m)

-- where one key ends, the lengths decide
pub key_order-end : (a b : List Datum) (i : ℕ) → i ≡ min (length a) (length b) → key_order (drop i a) (drop i b) ≡ nat_cmp (length a) (length b)
key_order-end [] [] zero e = refl
key_order-end [] (y ∷ b) zero e = grind (arith, nat_tests)
key_order-end (x ∷ a) [] zero e = grind (arith, nat_tests)
key_order-end (x ∷ a) (y ∷ b) zero e = absurd (omega (arith, e))
key_order-end [] b (suc i) e = absurd (omega (arith, e))
key_order-end (x ∷ a) [] (suc i) e = absurd (omega (arith, e))
key_order-end (x ∷ a) (y ∷ b) (suc i) e =
    let h : i ≡ min (length a) (length b) = omega (arith, e) in
    let t = key_order-end a b i h in
    grind (arith, nat_tests, t)

past : (a : List Datum) (i : ℕ) → length a ≤ i → drop i a ≡ []
past [] zero l = refl
past [] (suc i) l = refl
past (x ∷ a) zero l = absurd (omega arith)
past (x ∷ a) (suc i) l = past a i (omega arith)

-- keys that have no further value
pub key_order-past : (a b : List Datum) (i : ℕ) → length a ≤ i → length b ≤ i → key_order (drop i a) (drop i b) ≡ Equal
key_order-past a b i l m = ap (λ x. key_order x (drop i b)) (past a i l) ∙ ap (λ y. key_order [] y) (past b i m)

-- numbers of one scale are ordered as their coefficients
pub same_scale : (a b : Num) → a.scale ≡ b.scale → int_cmp a.coef b.coef ≡ order a b
same_scale a b e =
    sym (int_cmp-times a.coef b.coef (10 ^ b.scale) (power_pos b.scale)) ∙ ap (λ s. int_cmp (a.coef *ℤ pos (10 ^ b.scale)) (b.coef *ℤ pos (10 ^ s))) (sym e)

-- ---- keys of one value or two

then_nothing : (o : Ordering) → o ≡ ordering_then o Equal
then_nothing Less = refl
then_nothing Equal = refl
then_nothing Greater = refl

pub order_one : (a b : Datum) → data_order a b ≡ key_order (a ∷ []) (b ∷ [])
order_one a b = then_nothing (data_order a b)

-- where the first values differ they decide
pub order_unequal : (a b c d : Datum) (o : Ordering) → o ≡ data_order a c → (o ≡ Equal → ⊥) → o ≡ key_order (a ∷ b ∷ []) (c ∷ d ∷ [])
order_unequal a b c d Less e n = ap (λ o. ordering_then o (key_order (b ∷ []) (d ∷ []))) e
order_unequal a b c d Equal e n = absurd (n refl)
order_unequal a b c d Greater e n = ap (λ o. ordering_then o (key_order (b ∷ []) (d ∷ []))) e

pub order_equal : (a b c d : Datum) → Equal ≡ data_order a c → data_order b d ≡ key_order (a ∷ b ∷ []) (c ∷ d ∷ [])
order_equal a b c d e = order_one b d ∙ ap (λ o. ordering_then o (key_order (b ∷ []) (d ∷ []))) e

-- the first value is the beginning as long as one
pub order_first : (key : List Datum) (a b : Datum) → 0 < length key → a ≡ slice_index_or key 0 a → data_order a b ≡ prefix_order (b ∷ []) key
order_first [] a b l e = absurd (omega arith)
order_first (v ∷ vs) a b l e = ap (λ x. data_order x b) e ∙ order_one v b
