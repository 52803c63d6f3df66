-- One pass over the candidates of a call. Those that stay are the least in one order.
use Rattle.std.specs.Prelude.{◌≡◌, ℕ, suc, Bool, true, false, not, length, slice_index_or, List, [], ◌∷◌, ◌++◌, Option, Some, None}
use Rattle.std.specs.List.{filter, list_all}
use Rattle.std.specs.Ordering.{nat_cmp, ordering_then}
use Rattle.std.specs.declared.cmp.Ordering.{Ordering}
use Rattle.std.specs.declared.cmp.Ordering.TheVariants.{Less, Equal, Greater}
use Rattle.psm_scope.specs.declared.choice.Best.{Best}
use Rattle.psm_scope.specs.declared.kinds.ArgKind.{ArgKind}
use Rattle.psm_scope.specs.declared.kinds.ArgKind.TheVariants.{Null}
use Rattle.psm_scope.specs.Choice.{Candidate, rank}

-- how two parameters for an argument compare; NULL has no say
abbrev pub order_in : ArgKind → ArgKind → ArgKind → Ordering
order_in Null k l = Equal
order_in a k l = nat_cmp (rank k) (rank l)

-- how the parameters of two functions compare from an index on: the first one at which they differ decides
abbrev pub order : ℕ → List ArgKind → List ArgKind → List ArgKind → Ordering
order index [] ks ls = Equal
order index (a ∷ others) ks ls = ordering_then (order_in a (slice_index_or ks index Null) (slice_index_or ls index Null)) (order (suc index) others ks ls)

-- those before which no other one comes
abbrev pub is_after : Ordering → Bool
is_after Less = false
is_after Equal = false
is_after Greater = true

abbrev pub least_in_order : ℕ → List ArgKind → List Candidate → List Candidate
least_in_order index args cs = filter (λ c. list_all (λ d. not (is_after (order index args c.1 d.1))) cs) cs

-- what stays of a candidate before others that are alike, by its order beside them
abbrev pub joined : Ordering → Candidate → List Candidate → List Candidate
joined Less c cs = c ∷ []
joined Equal c cs = c ∷ cs
joined Greater c cs = cs

abbrev pub added : ℕ → List ArgKind → Candidate → List Candidate → List Candidate
added index args c [] = c ∷ []
added index args c (b ∷ more) = joined (order index args c.1 b.1) c (b ∷ more)

-- what stays of two lists of candidates that are alike, by the order of the second beside the first
abbrev pub stays : Ordering → List Candidate → List Candidate → List Candidate
stays Less bs cs = cs
stays Equal bs cs = bs ++ cs
stays Greater bs cs = bs

-- what stays of candidates that are alike and of others that come after them
abbrev pub merged : ℕ → List ArgKind → List Candidate → List Candidate → List Candidate
merged index args [] cs = cs
merged index args (b ∷ bs) [] = b ∷ bs
merged index args (b ∷ bs) (c ∷ cs) = stays (order index args c.1 b.1) (b ∷ bs) (c ∷ cs)

-- ---- what the pass keeps of them: the first, and whether there is another one

abbrev pub is_more : List Candidate → Bool
is_more [] = false
is_more (c ∷ cs) = true

abbrev pub Sees : Option Best → List Candidate → Type 0
Sees None [] = Unit {0}
Sees None (c ∷ cs) = ⊥
Sees (Some best) [] = ⊥
Sees (Some best) (c ∷ cs) = (best.number ≡ c.0) × (best.kinds.now ≡ c.1) × (best.tied ≡ is_more cs)

-- the kinds that it keeps are as many as the arguments
abbrev pub IsAsLong : ℕ → Option Best → Type 0
IsAsLong n None = Unit {0}
IsAsLong n (Some best) = length best.kinds.now ≡ n
