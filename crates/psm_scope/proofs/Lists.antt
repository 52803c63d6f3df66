-- What tests that are joined say, and the items of a list from an index on.
use Rattle.std.proofs.Common.{◌≡◌, ℕ, suc, zero, Bool, true, false, ◌&&◌, drop, List, [], ◌∷◌, refl, ap}
use Rattle.std.specs.Prelude.{Some, slice_get}

pub both : (a b : Bool) → (a && b) ≡ true → (a ≡ true) × (b ≡ true)
both true b e = (refl, e)
both false b e = cc

pub dropped : {A : Type 0} (xs : List A) (x : A) (k : ℕ) → slice_get xs k ≡ Some x → drop k xs ≡ x ∷ drop (suc k) xs
dropped [] x k e = cc
dropped (y ∷ ys) x zero e = let h : y ≡ x = cc in ap (λ y. y ∷ ys) h
dropped (y ∷ ys) x (suc k) e = dropped ys x k e
