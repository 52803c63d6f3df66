-- Tests that say the same of two values in either order.
use Rattle.std.proofs.Common.{◌≡◌, ℕ, Bool, true, false, ◌&&◌, List, refl, sym, arith}
use Rattle.std.specs.Prelude.{nat_eq}
use Rattle.std.specs.Cmp.Lexicographic.{pointwise}
use Rattle.std.proofs.lemmas.Bool.Decides.{nat_tests, same_from_decides}
use Rattle.std.proofs.lemmas.Slice.Eq.{bytes_eq-Decides}
use Rattle.psm_code.specs.RoutineRules.{same_truth}
use Rattle.psm_keys.specs.Signature.{Signature, is_same_signature}

pub numbers_turned : (m n : ℕ) → nat_eq m n ≡ nat_eq n m
numbers_turned m n = grind (arith, nat_tests)

truths_turned : (a b : Bool) → same_truth a b ≡ same_truth b a
truths_turned true true = refl
truths_turned true false = refl
truths_turned false true = refl
truths_turned false false = refl

pub texts_turned : (a b : List ℕ) → pointwise nat_eq a b ≡ pointwise nat_eq b a
texts_turned a b = same_from_decides (pointwise nat_eq a b) (pointwise nat_eq b a) (bytes_eq-Decides a b) (
  λ e. sym ((bytes_eq-Decides b a).0 e),
  λ e. (bytes_eq-Decides b a).1 (sym e),
)

pub signatures_turned : (a b : Signature) → is_same_signature a b ≡ is_same_signature b a
signatures_turned a b = λ i.
    texts_turned a.name b.name i && (truths_turned a.is_function b.is_function i && (numbers_turned a.count b.count i && texts_turned a.kinds b.kinds i))
