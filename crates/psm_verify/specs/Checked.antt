-- Faults that are looked for line by line of a listing.
use Rattle.std.specs.Prelude.{◌≡◌, ℕ, suc, List, [], ◌∷◌, slice_get, take, Option, Some, None, Result, Ok, Err}
use Rattle.psm_code.specs.declared.rule.CodeRule.{CodeRule}
use Rattle.psm_verify.specs.declared.fault.CodeFault.{CodeFault}
use Rattle.psm_verify.specs.declared.fault.Stop.{Stop}
use Rattle.psm_verify.specs.declared.fault.Stop.TheVariants.{Fault, Memory}

-- the number of the line after some lines, the first of which has the number n, or the fault of the first that has one
abbrev pub checked : ℕ → List (Option CodeRule) → Result ℕ CodeFault
checked n [] = Ok n
checked n (None ∷ rest) = checked (suc n) rest
checked n (Some r ∷ rest) = Err (record { line = n; rule = r })

-- the answer is the one that is due, unless memory runs out
abbrev pub Finds : Result ℕ CodeFault → Result ℕ Stop → Type 0
Finds due (Ok n) = due ≡ Ok n
Finds due (Err (Fault f)) = due ≡ Err f
Finds due (Err Memory) = Unit {0}

-- the lines of the item at an index, which sees those before it
abbrev pub item_in : {A B : Type 0} → (List A → A → List B) → List A → Option A → List B
item_in f before None = []
item_in f before (Some x) = f before x

abbrev pub item_at : {A B : Type 0} → (List A → A → List B) → List A → ℕ → List B
item_at f xs at = item_in f (take at xs) (slice_get xs at)
