-- Numbers of which none stands twice are each new after those before it.
use Rattle.std.proofs.Common.{◌≡◌, ℕ, Bool, true, false, ◌&&◌, not, List, [], ◌∷◌, ◌++◌, refl, ap, sym, ◌∙◌}
use Rattle.std.proofs.Math.Bool.{and-true, and_assoc}
use Rattle.std.specs.Prelude.{nat_eq, if◌then◌else◌}
use Rattle.std.specs.List.{list_all}
use Rattle.psm_keys.specs.Fresh.{are_new, is_new}
use Rattle.psm_code.specs.Rules.{are_distinct, is_among}
use Rattle.psm_keys.proofs.Turned.{numbers_turned}

-- a number is new after one more number if it is new after the others and isn't that one
new_after_last : (y x : ℕ) (old : List ℕ) → is_new nat_eq y (old ++ x ∷ []) ≡ (is_new nat_eq y old && not (nat_eq x y))
new_after_last y x [] = and-true (not (nat_eq x y))
new_after_last y x (z ∷ zs) = ap (λ b. not (nat_eq z y) && b) (new_after_last y x zs) ∙ sym (and_assoc (not (nat_eq z y)) (is_new nat_eq y zs) (not (nat_eq x y)))

-- whether all of some are new after others
abbrev all_new : List ℕ → List ℕ → Bool
all_new old xs = list_all (λ x. is_new nat_eq x old) xs

one_apart : (a b c d : Bool) → ((a && not c) && (b && not d)) ≡ ((a && b) && not (if c then true else d))
one_apart true true true d = refl
one_apart true true false d = refl
one_apart true false true d = refl
one_apart true false false d = refl
one_apart false b c d = refl

all_new_after_last : (x : ℕ) (old ys : List ℕ) → all_new (old ++ x ∷ []) ys ≡ (all_new old ys && not (is_among x ys))
all_new_after_last x old [] = refl
all_new_after_last x old (y ∷ ys) =
    ap (λ b. b && all_new (old ++ x ∷ []) ys) (new_after_last y x old)
    ∙ ap (λ b. (is_new nat_eq y old && not (nat_eq x y)) && b) (all_new_after_last x old ys)
    ∙ one_apart (is_new nat_eq y old) (all_new old ys) (nat_eq x y) (is_among x ys)

regroup : (a b c d : Bool) → (a && ((b && c) && d)) ≡ ((a && b) && (c && d))
regroup true true c d = refl
regroup true false c d = refl
regroup false b c d = refl

new_and_distinct : (old xs : List ℕ) → are_new nat_eq old xs ≡ (all_new old xs && are_distinct xs)
new_and_distinct old [] = refl
new_and_distinct old (x ∷ xs) =
    ap (λ b. is_new nat_eq x old && b) (new_and_distinct (old ++ x ∷ []) xs)
    ∙ ap (λ b. is_new nat_eq x old && (b && are_distinct xs)) (all_new_after_last x old xs)
    ∙ regroup (is_new nat_eq x old) (all_new old xs) (not (is_among x xs)) (are_distinct xs)

all_new_after_none : (xs : List ℕ) → all_new [] xs ≡ true
all_new_after_none [] = refl
all_new_after_none (x ∷ xs) = all_new_after_none xs

pub distinct_is : (xs : List ℕ) → are_distinct xs ≡ are_new nat_eq [] xs
distinct_is xs = sym (new_and_distinct [] xs ∙ ap (λ b. b && are_distinct xs) (all_new_after_none xs))

-- ---- a number that is new after others isn't among them

not_either : (a b : Bool) → (not a && not b) ≡ not (if a then true else b)
not_either true b = refl
not_either false b = refl

pub new_number : (n : ℕ) (ms : List ℕ) → is_new nat_eq n ms ≡ not (is_among n ms)
new_number n [] = refl
new_number n (m ∷ ms) = ap (λ b. not b && is_new nat_eq n ms) (numbers_turned m n) ∙ ap (λ b. not (nat_eq n m) && b) (new_number n ms) ∙ not_either (nat_eq n m) (is_among n ms)
