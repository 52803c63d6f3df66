-- Lines of a listing one part after another.
use Rattle.std.proofs.Common.{◌≡◌, ℕ, suc, List, [], ◌∷◌, ◌++◌, ap, sym, subst, Option, Some, None, Result, Ok, Err}
use Rattle.psm_code.specs.declared.rule.CodeRule.{CodeRule}
use Rattle.psm_verify.specs.declared.fault.CodeFault.{CodeFault}
use Rattle.psm_verify.specs.declared.fault.Stop.{Stop}
use Rattle.psm_verify.specs.declared.fault.Stop.TheVariants.{Fault, Memory}
use Rattle.psm_verify.specs.Checked.{Finds, checked}

pub going_on : (xs ys : List (Option CodeRule)) (n m : ℕ) → checked n xs ≡ Ok m → checked n (xs ++ ys) ≡ checked m ys
going_on [] ys n m h = let e : n ≡ m = cc in ap (λ k. checked k ys) e
going_on (None ∷ xs) ys n m h = going_on xs ys (suc n) m h
going_on (Some r ∷ xs) ys n m h = absurd (cc)

pub stopped : (xs ys : List (Option CodeRule)) (n : ℕ) (f : CodeFault) → checked n xs ≡ Err f → checked n (xs ++ ys) ≡ Err f
stopped [] ys n f h = absurd (cc)
stopped (None ∷ xs) ys n f h = stopped xs ys (suc n) f h
stopped (Some r ∷ xs) ys n f h = h

stop_at : (xs ys : List (Option CodeRule)) (n : ℕ) (s : Stop) → Finds (checked n xs) (Err s) → Finds (checked n (xs ++ ys)) (Err s)
stop_at xs ys n (Fault f) h = stopped xs ys n f h
stop_at xs ys n Memory h = tt

-- ---- what is found in two parts

pub go : (xs ys : List (Option CodeRule)) (n : ℕ) {m : ℕ} (r : Result ℕ Stop) → checked n xs ≡ Ok m → Finds (checked m ys) r → Finds (checked n (xs ++ ys)) r
go xs ys n {m} r h g = subst (λ d. Finds d r) (sym (going_on xs ys n m h)) g

pub stop : (xs ys : List (Option CodeRule)) (n : ℕ) {s : Stop} {r : Result ℕ Stop} → r ≡ Err s → Finds (checked n xs) (Err s) → Finds (checked n (xs ++ ys)) r
stop xs ys n {s} q h = subst (λ r. Finds (checked n (xs ++ ys)) r) (sym q) (stop_at xs ys n s h)
