-- Narrowing from the left keeps the least in one order.
use Rattle.std.proofs.Common.{◌≡◌, ℕ, suc, ◌<◌, ◌≤◌, Bool, true, false, not, ◌&&◌, ◌||◌, nat_le, List, [], ◌∷◌, refl, ap, sym, ◌∙◌, arith}
use Rattle.std.specs.Prelude.{if◌then◌else◌}
use Rattle.std.specs.List.{filter, list_all}
use Rattle.std.specs.Ordering.{nat_cmp, ordering_then}
use Rattle.std.specs.declared.cmp.Ordering.{Ordering}
use Rattle.std.specs.declared.cmp.Ordering.TheVariants.{Less, Equal, Greater}
use Rattle.std.proofs.lemmas.Bool.Decides.{nat_tests}
use Rattle.psm_scope.specs.declared.kinds.ArgKind.{ArgKind}
use Rattle.psm_scope.specs.declared.kinds.ArgKind.TheVariants.{Null}
use Rattle.psm_scope.specs.Choice.{Candidate, rank_in, lowest, narrowed}
use Rattle.psm_scope.specs.Pass.{is_after, least_in_order, order}
use Rattle.psm_scope.proofs.Narrowing.{Each, all_least, above_least, each_map, least, lowest_is, rank_in_small, upto}

-- ---- filters

pub filter_same : (p q : Candidate → Bool) (cs : List Candidate) → Each (λ c. p c ≡ q c) cs → filter p cs ≡ filter q cs
filter_same p q [] e = refl
filter_same p q (c ∷ cs) e = λ i. if e.0 i then c ∷ filter_same p q cs e.1 i else filter_same p q cs e.1 i

all_same : (p q : Candidate → Bool) (cs : List Candidate) → Each (λ c. p c ≡ q c) cs → list_all p cs ≡ list_all q cs
all_same p q [] e = refl
all_same p q (c ∷ cs) e = λ i. e.0 i && all_same p q cs e.1 i

pub filter_filter : (p q : Candidate → Bool) (cs : List Candidate) → filter p (filter q cs) ≡ filter (λ c. q c && p c) cs
filter_filter p q [] = refl
filter_filter p q (c ∷ cs) = by (q c) (filter_filter p q cs)
  where
    by : (b : Bool) → filter p (filter q cs) ≡ filter (λ c. q c && p c) cs
        → filter p (if b then c ∷ filter q cs else filter q cs) ≡ (if b && p c then c ∷ filter (λ c. q c && p c) cs else filter (λ c. q c && p c) cs)
    by true e = ap (λ l. if p c then c ∷ l else l) e
    by false e = e

all_filter : (p q : Candidate → Bool) (cs : List Candidate) → list_all p (filter q cs) ≡ list_all (λ d. not (q d) || p d) cs
all_filter p q [] = refl
all_filter p q (c ∷ cs) = by (q c) (all_filter p q cs)
  where
    by : (b : Bool) → list_all p (filter q cs) ≡ list_all (λ d. not (q d) || p d) cs
        → list_all p (if b then c ∷ filter q cs else filter q cs) ≡ ((not b || p c) && list_all (λ d. not (q d) || p d) cs)
    by true e = ap (λ r. p c && r) e
    by false e = e

parts : (a b : Bool) → (a && b) ≡ true → (a ≡ true) × (b ≡ true)
parts true b e = (refl, e)
parts false b e = cc

all_more : (p q : Candidate → Bool) (cs : List Candidate) → ((c : Candidate) → p c ≡ true → q c ≡ true) → list_all p cs ≡ true → list_all q cs ≡ true
all_more p q [] h e = refl
all_more p q (c ∷ cs) h e =
    let s = parts (p c) (list_all p cs) e in
    ap (λ b. b && list_all q cs) (h c s.0) ∙ all_more p q cs h s.1

all_kept : (cs : List Candidate) → list_all (λ d. true) cs ≡ true
all_kept [] = refl
all_kept (c ∷ cs) = all_kept cs

pub kept : (cs : List Candidate) → filter (λ c. true) cs ≡ cs
kept [] = refl
kept (c ∷ cs) = ap (λ l. c ∷ l) (kept cs)

-- ---- one index

-- r and s are the ranks of two candidates, m the lowest, and o is how they compare after the index
at_lowest : (r s m : ℕ) (o c : Ordering) → nat_cmp r s ≡ c → m ≤ r → r ≤ m → m ≤ s → (not (nat_le s m) || not (is_after o)) ≡ not (is_after (ordering_then c o))
at_lowest r s m o Less e l p q = let t : nat_le s m ≡ false = grind (arith, nat_tests, e, l) in ap (λ b. not b || not (is_after o)) t
at_lowest r s m o Equal e l p q = let t : nat_le s m ≡ true = grind (arith, nat_tests, e, p) in ap (λ b. not b || not (is_after o)) t
at_lowest r s m o Greater e l p q = let g : s < r = grind (arith, nat_tests, e) in absurd (omega (arith, g, p, q))

not_after : (r s : ℕ) (o c : Ordering) → nat_cmp r s ≡ c → not (is_after (ordering_then c o)) ≡ true → nat_le r s ≡ true
not_after r s o Less e f = grind (arith, nat_tests, e)
not_after r s o Equal e f = grind (arith, nat_tests, e)
not_after r s o Greater e f = cc

module _ (index : ℕ) (others : List ArgKind) (cs : List Candidate) where
  one_index : (c : Candidate) → least index cs ≤ rank_in index c
      → (nat_le (rank_in index c) (least index cs) && list_all (λ d. not (is_after (order (suc index) others c.1 d.1))) (upto index (least index cs) cs))
      ≡ list_all (λ d. not (is_after (ordering_then (nat_cmp (rank_in index c) (rank_in index d)) (order (suc index) others c.1 d.1)))) cs
  one_index c low =
      ap (λ b. nat_le (rank_in index c) (least index cs) && b)
      (all_filter (λ d. not (is_after (order (suc index) others c.1 d.1))) (λ d. nat_le (rank_in index d) (least index cs)) cs)
      ∙ by (nat_le (rank_in index c) (least index cs)) refl
    where
      by : (b : Bool) → nat_le (rank_in index c) (least index cs) ≡ b
          → (b && list_all (λ d. not (nat_le (rank_in index d) (least index cs)) || not (is_after (order (suc index) others c.1 d.1))) cs)
          ≡ list_all (λ d. not (is_after (ordering_then (nat_cmp (rank_in index c) (rank_in index d)) (order (suc index) others c.1 d.1)))) cs
      by true e =
          let r : rank_in index c ≤ least index cs = grind (arith, nat_tests, e) in
          all_same (λ d. not (nat_le (rank_in index d) (least index cs)) || not (is_after (order (suc index) others c.1 d.1)))
          (λ d. not (is_after (ordering_then (nat_cmp (rank_in index c) (rank_in index d)) (order (suc index) others c.1 d.1)))) cs
          (each_map (λ d. least index cs ≤ rank_in index d)
          (λ d. (not (nat_le (rank_in index d) (least index cs)) || not (is_after (order (suc index) others c.1 d.1)))
          ≡ not (is_after (ordering_then (nat_cmp (rank_in index c) (rank_in index d)) (order (suc index) others c.1 d.1))))
          (λ d p. at_lowest (rank_in index c) (rank_in index d) (least index cs) (order (suc index) others c.1 d.1) (nat_cmp (rank_in index c) (rank_in index d)) refl low r p)
          cs (above_least index cs))
      by false e = no (list_all (λ d. not (is_after (ordering_then (nat_cmp (rank_in index c) (rank_in index d)) (order (suc index) others c.1 d.1)))) cs) refl
        where
          no : (t : Bool) → list_all (λ d. not (is_after (ordering_then (nat_cmp (rank_in index c) (rank_in index d)) (order (suc index) others c.1 d.1)))) cs ≡ t → false ≡ t
          no false f = refl
          no true f =
              sym e ∙ sym (all_least index (rank_in index c) cs (rank_in_small index c))
              ∙ all_more (λ d. not (is_after (ordering_then (nat_cmp (rank_in index c) (rank_in index d)) (order (suc index) others c.1 d.1)))) (λ d. nat_le (rank_in index c) (rank_in index d)) cs
              (λ d g. not_after (rank_in index c) (rank_in index d) (order (suc index) others c.1 d.1) (nat_cmp (rank_in index c) (rank_in index d)) refl g) f

  lowest_least : least_in_order (suc index) others (lowest index cs)
      ≡ filter (λ c. list_all (λ d. not (is_after (ordering_then (nat_cmp (rank_in index c) (rank_in index d)) (order (suc index) others c.1 d.1)))) cs) cs
  lowest_least =
      ap (least_in_order (suc index) others) (lowest_is index cs)
      ∙ filter_filter (λ c. list_all (λ d. not (is_after (order (suc index) others c.1 d.1))) (upto index (least index cs) cs)) (λ c. nat_le (rank_in index c) (least index cs)) cs
      ∙ filter_same (λ c. nat_le (rank_in index c) (least index cs) && list_all (λ d. not (is_after (order (suc index) others c.1 d.1))) (upto index (least index cs) cs))
      (λ c. list_all (λ d. not (is_after (ordering_then (nat_cmp (rank_in index c) (rank_in index d)) (order (suc index) others c.1 d.1)))) cs) cs
      (each_map (λ c. least index cs ≤ rank_in index c)
      (λ c. (nat_le (rank_in index c) (least index cs) && list_all (λ d. not (is_after (order (suc index) others c.1 d.1))) (upto index (least index cs) cs))
      ≡ list_all (λ d. not (is_after (ordering_then (nat_cmp (rank_in index c) (rank_in index d)) (order (suc index) others c.1 d.1)))) cs)
      one_index cs (above_least index cs))

-- ---- all indexes

pub narrowed_least : (index : ℕ) (args : List ArgKind) (cs : List Candidate) → narrowed index args cs ≡ least_in_order index args cs
narrowed_least index [] cs = sym (ap (λ b. filter (λ c. b) cs) (all_kept cs) ∙ kept cs)
narrowed_least index (Null ∷ others) cs = narrowed_least (suc index) others cs
narrowed_least index (a ∷ others) cs = narrowed_least (suc index) others (lowest index cs) ∙ lowest_least index others cs
