-- Faults of code, line by line of its listing: a line has the first rule that it breaks, if any.
use Rattle.std.specs.Prelude.{ℕ, suc, Bool, true, false, ◌&&◌, not, nat_eq, List, [], ◌∷◌, ◌++◌, slice_get, Option, Some, None, if◌then◌else◌}
use Rattle.std.specs.Cmp.Lexicographic.{pointwise}
use Rattle.psm_code.specs.declared.rule.CodeRule.{CodeRule}

-- the rule that a line breaks unless a test holds
abbrev pub unless : Bool → CodeRule → Option CodeRule
unless true r = None
unless false r = Some r

-- the first of some
abbrev pub or_else : Option CodeRule → Option CodeRule → Option CodeRule
or_else None r = r
or_else (Some q) r = Some q

abbrev pub first_of : List (Option CodeRule) → Option CodeRule
first_of [] = None
first_of (r ∷ rs) = or_else r (first_of rs)

-- the first line of a listing that breaks a rule, counted from n
abbrev pub fault_in : ℕ → List (Option CodeRule) → Option (ℕ × CodeRule)
fault_in n [] = None
fault_in n (None ∷ rest) = fault_in (suc n) rest
fault_in n (Some r ∷ rest) = Some (n, r)

-- ---- names and numbers

abbrev pub is_same : List ℕ → List ℕ → Bool
is_same a b = pointwise nat_eq a b

abbrev pub is_among : ℕ → List ℕ → Bool
is_among n [] = false
is_among n (m ∷ ms) = if nat_eq n m then true else is_among n ms

-- whether no number stands twice
abbrev pub are_distinct : List ℕ → Bool
are_distinct [] = true
are_distinct (n ∷ ns) = not (is_among n ns) && are_distinct ns

abbrev pub is_some : {A : Type 0} → List A → Bool
is_some [] = false
is_some (x ∷ xs) = true

abbrev pub there : {A : Type 0} → Option A → Bool
there None = false
there (Some a) = true

abbrev pub is_there : {A : Type 0} → List A → ℕ → Bool
is_there xs n = there (slice_get xs n)

-- what is said of something that is there; where it isn't, another rule is broken
abbrev pub where_there : {A : Type 0} → Option A → (A → Bool) → Bool
where_there None test = true
where_there (Some a) test = test a

-- one list for the items of a list, each of which sees those before it
abbrev pub each_after : {A B : Type 0} → (List A → A → List B) → List A → List A → List B
each_after f before [] = []
each_after f before (x ∷ xs) = f before x ++ each_after f (before ++ x ∷ []) xs
