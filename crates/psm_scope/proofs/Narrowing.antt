-- The candidates that stay are the least in the order of their kinds, from the left, at the indexes whose argument isn't NULL. So
-- one pass over the candidates finds them.
use Rattle.std.proofs.Common.{◌≡◌, ℕ, suc, ◌<◌, ◌≤◌, Bool, true, false, ◌&&◌, nat_le, List, [], ◌∷◌, refl, ap, sym, ◌∙◌, subst, arith}
use Rattle.std.specs.Prelude.{min, if◌then◌else◌}
use Rattle.std.specs.List.{filter, list_all}
use Rattle.std.specs.Ordering.{nat_cmp, ordering_then}
use Rattle.std.specs.declared.cmp.Ordering.{Ordering}
use Rattle.std.specs.declared.cmp.Ordering.TheVariants.{Less, Equal, Greater}
use Rattle.std.proofs.lemmas.Bool.Decides.{nat_tests}
use Rattle.psm_scope.specs.declared.kinds.ArgKind.{ArgKind}
use Rattle.psm_scope.specs.declared.kinds.ArgKind.TheVariants.{SmallInt, Integer, Numeric, Char, VarChar, Null}
use Rattle.psm_scope.specs.Choice.{Candidate, rank, rank_in, lowest, narrowed}
use Rattle.psm_scope.specs.Pass.{order, joined, added}

-- ---- facts of each of a list

abbrev pub Each : (Candidate → Type 0) → List Candidate → Type 0
Each P [] = Unit {0}
Each P (c ∷ cs) = P c × Each P cs

pub each_one : (P : Candidate → Type 0) (c : Candidate) (cs : List Candidate) (b : Bool) → (b ≡ true → P c) → Each P cs → Each P (if b then c ∷ cs else cs)
each_one P c cs true p e = (p refl, e)
each_one P c cs false p e = e

pub each_kept : (P Q : Candidate → Type 0) (p : Candidate → Bool) → ((c : Candidate) → Q c → p c ≡ true → P c) → (cs : List Candidate) → Each Q cs → Each P (filter p cs)
each_kept P Q p h [] e = tt
each_kept P Q p h (c ∷ cs) e = each_one P c (filter p cs) (p c) (λ is. h c e.0 is) (each_kept P Q p h cs e.1)

pub each_map : (P Q : Candidate → Type 0) → ((c : Candidate) → P c → Q c) → (cs : List Candidate) → Each P cs → Each Q cs
each_map P Q h [] e = tt
each_map P Q h (c ∷ cs) e = (h c e.0, each_map P Q h cs e.1)

-- ---- the lowest rank at an index; a rank is at most 2

abbrev pub least : ℕ → List Candidate → ℕ
least index [] = 2
least index (c ∷ cs) = min (rank_in index c) (least index cs)

pub rank_small : (k : ArgKind) → rank k ≤ 2
rank_small SmallInt = omega arith
rank_small Integer = omega arith
rank_small Numeric = omega arith
rank_small Char = omega arith
rank_small VarChar = omega arith
rank_small Null = omega arith

pub rank_in_small : (index : ℕ) (c : Candidate) → rank_in index c ≤ 2
rank_in_small index c = rank_small _

both_least : (n r l : ℕ) (b : Bool) → b ≡ nat_le n l → (nat_le n r && b) ≡ nat_le n (min r l)
both_least n r l b e = grind (arith, nat_tests, e)

pub all_least : (index n : ℕ) (cs : List Candidate) → n ≤ 2 → list_all (λ d. nat_le n (rank_in index d)) cs ≡ nat_le n (least index cs)
all_least index n [] h = grind (arith, nat_tests, h)
all_least index n (c ∷ cs) h = both_least n (rank_in index c) (least index cs) (list_all (λ d. nat_le n (rank_in index d)) cs) (all_least index n cs h)

-- those whose rank at an index is at most n
abbrev pub upto : ℕ → ℕ → List Candidate → List Candidate
upto index n cs = filter (λ c. nat_le (rank_in index c) n) cs

pub lowest_is : (index : ℕ) (cs : List Candidate) → lowest index cs ≡ upto index (least index cs) cs
lowest_is index cs = λ i. filter (λ c. all_least index (rank_in index c) cs (rank_in_small index c) i) cs

pub above_least : (index : ℕ) (cs : List Candidate) → Each (λ c. least index cs ≤ rank_in index c) cs
above_least index [] = tt
above_least index (c ∷ cs) = (
  grind arith,
  each_map (λ d. least index cs ≤ rank_in index d) (λ d. least index (c ∷ cs) ≤ rank_in index d) (λ d p. grind (arith, p)) cs (above_least index cs),
)

at_least : (index : ℕ) (cs : List Candidate) → Each (λ c. rank_in index c ≡ least index cs) (lowest index cs)
at_least index cs =
    subst (λ l. Each (λ c. rank_in index c ≡ least index cs) l) (sym (lowest_is index cs))
    (each_kept (λ c. rank_in index c ≡ least index cs) (λ c. least index cs ≤ rank_in index c) (λ c. nat_le (rank_in index c) (least index cs))
    (λ c p q. grind (arith, nat_tests, p, q)) cs (above_least index cs))

-- ---- one candidate more, before the others

none_below : (index n : ℕ) (cs : List Candidate) → Each (λ c. n < rank_in index c) cs → upto index n cs ≡ []
none_below index n [] e = refl
none_below index n (c ∷ cs) e =
    let f : nat_le (rank_in index c) n ≡ false = grind (arith, nat_tests, e.0) in
    ap (λ b. if b then c ∷ upto index n cs else upto index n cs) f ∙ none_below index n cs e.1

upto_more : (index : ℕ) (c : Candidate) (cs : List Candidate) (o : Ordering) → nat_cmp (rank_in index c) (least index cs) ≡ o
    → upto index (least index (c ∷ cs)) (c ∷ cs) ≡ joined o c (upto index (least index cs) cs)
upto_more index c cs Less e =
    let m : least index (c ∷ cs) ≡ rank_in index c = grind (arith, nat_tests, e) in
    let t : nat_le (rank_in index c) (rank_in index c) ≡ true = grind (arith, nat_tests) in
    let below : rank_in index c < least index cs = grind (arith, nat_tests, e) in
    ap (λ n. upto index n (c ∷ cs)) m
    ∙ ap (λ b. if b then c ∷ upto index (rank_in index c) cs else upto index (rank_in index c) cs) t
    ∙ ap (λ l. c ∷ l) (none_below index (rank_in index c) cs
    (each_map (λ d. least index cs ≤ rank_in index d) (λ d. rank_in index c < rank_in index d) (λ d p. omega (arith, below, p)) cs (above_least index cs)))
upto_more index c cs Equal e =
    let m : least index (c ∷ cs) ≡ least index cs = grind (arith, nat_tests, e) in
    let t : nat_le (rank_in index c) (least index cs) ≡ true = grind (arith, nat_tests, e) in
    ap (λ n. upto index n (c ∷ cs)) m
    ∙ ap (λ b. if b then c ∷ upto index (least index cs) cs else upto index (least index cs) cs) t
upto_more index c cs Greater e =
    let m : least index (c ∷ cs) ≡ least index cs = grind (arith, nat_tests, e) in
    let t : nat_le (rank_in index c) (least index cs) ≡ false = grind (arith, nat_tests, e) in
    ap (λ n. upto index n (c ∷ cs)) m
    ∙ ap (λ b. if b then c ∷ upto index (least index cs) cs else upto index (least index cs) cs) t

lowest_more : (index : ℕ) (c : Candidate) (cs : List Candidate) → lowest index (c ∷ cs) ≡ joined (nat_cmp (rank_in index c) (least index cs)) c (lowest index cs)
lowest_more index c cs =
    lowest_is index (c ∷ cs) ∙ upto_more index c cs (nat_cmp (rank_in index c) (least index cs)) refl
    ∙ ap (λ l. joined (nat_cmp (rank_in index c) (least index cs)) c l) (sym (lowest_is index cs))

-- ---- what narrowing keeps

each_lowest : (P : Candidate → Type 0) (index : ℕ) (cs : List Candidate) → Each P cs → Each P (lowest index cs)
each_lowest P index cs e = each_kept P P (λ c. list_all (λ d. nat_le (rank_in index c) (rank_in index d)) cs) (λ c p is. p) cs e

pub each_narrowed : (P : Candidate → Type 0) (index : ℕ) (args : List ArgKind) (cs : List Candidate) → Each P cs → Each P (narrowed index args cs)
each_narrowed P index [] cs e = e
each_narrowed P index (Null ∷ others) cs e = each_narrowed P (suc index) others cs e
each_narrowed P index (a ∷ others) cs e = each_narrowed P (suc index) others (lowest index cs) (each_lowest P index cs e)

lowest_one : (index : ℕ) (c : Candidate) → lowest index (c ∷ []) ≡ c ∷ []
lowest_one index c =
    let t : (nat_le (rank_in index c) (rank_in index c) && true) ≡ true = grind (arith, nat_tests) in
    ap (λ b. if b then c ∷ [] else []) t

narrowed_one : (index : ℕ) (args : List ArgKind) (c : Candidate) → narrowed index args (c ∷ []) ≡ c ∷ []
narrowed_one index [] c = refl
narrowed_one index (Null ∷ others) c = narrowed_one (suc index) others c
narrowed_one index (a ∷ others) c = ap (λ l. narrowed (suc index) others l) (lowest_one index c) ∙ narrowed_one (suc index) others c

pub narrowed_none : (index : ℕ) (args : List ArgKind) → narrowed index args [] ≡ []
narrowed_none index [] = refl
narrowed_none index (Null ∷ others) = narrowed_none (suc index) others
narrowed_none index (a ∷ others) = narrowed_none (suc index) others

none_lowest : (index : ℕ) (cs : List Candidate) → lowest index cs ≡ [] → cs ≡ []
none_lowest index [] e = refl
none_lowest index (c ∷ cs) e = by_order (nat_cmp (rank_in index c) (least index cs)) refl (sym (lowest_more index c cs) ∙ e) (none_lowest index cs)
  where
    by_order : (o : Ordering) → nat_cmp (rank_in index c) (least index cs) ≡ o → joined o c (lowest index cs) ≡ [] → (lowest index cs ≡ [] → cs ≡ []) → c ∷ cs ≡ []
    by_order Less p e rec = cc
    by_order Equal p e rec = cc
    by_order Greater p e rec =
        let m : least index cs ≡ 2 = ap (λ l. least index l) (rec e) in
        let s : rank_in index c ≤ 2 = rank_in_small index c in
        let g : least index cs < rank_in index c = grind (arith, nat_tests, p) in
        absurd (omega (arith, m, s, g))

none_narrowed : (index : ℕ) (args : List ArgKind) (cs : List Candidate) → narrowed index args cs ≡ [] → cs ≡ []
none_narrowed index [] cs e = e
none_narrowed index (Null ∷ others) cs e = none_narrowed (suc index) others cs e
none_narrowed index (a ∷ others) cs e = none_lowest index cs (none_narrowed (suc index) others (lowest index cs) e)

-- ---- one candidate more

-- the ranks at an index decide first
abbrev decided : Ordering → ℕ → List ArgKind → Candidate → List Candidate → List Candidate
decided Less index others c m = c ∷ []
decided Equal index others c m = added (suc index) others c m
decided Greater index others c m = m

decides : (index : ℕ) (others : List ArgKind) (c : Candidate) (n : ℕ) (o : Ordering) → nat_cmp (rank_in index c) n ≡ o → (b : Candidate) (more : List Candidate)
    → rank_in index b ≡ n → joined (ordering_then (nat_cmp (rank_in index c) (rank_in index b)) (order (suc index) others c.1 b.1)) c (b ∷ more) ≡ decided o index others c (b ∷ more)
decides index others c n o p b more e =
    ap (λ r. joined (ordering_then (nat_cmp (rank_in index c) r) (order (suc index) others c.1 b.1)) c (b ∷ more)) e
    ∙ ap (λ q. joined (ordering_then q (order (suc index) others c.1 b.1)) c (b ∷ more)) p
    ∙ by o
  where
    by : (o : Ordering) → joined (ordering_then o (order (suc index) others c.1 b.1)) c (b ∷ more) ≡ decided o index others c (b ∷ more)
    by Less = refl
    by Equal = refl
    by Greater = refl

-- where nothing stays, nothing was there
nothing_above : (index : ℕ) (others : List ArgKind) (c : Candidate) (n : ℕ) (o : Ordering) → nat_cmp (rank_in index c) n ≡ o → n ≡ 2 → c ∷ [] ≡ decided o index others c []
nothing_above index others c n Less p e = refl
nothing_above index others c n Equal p e = refl
nothing_above index others c n Greater p e =
    let s : rank_in index c ≤ 2 = rank_in_small index c in
    let g : n < rank_in index c = grind (arith, nat_tests, p) in
    absurd (omega (arith, e, s, g))

narrowed_by_order : (index : ℕ) (others : List ArgKind) (c : Candidate) (l : List Candidate) (o : Ordering)
    → narrowed (suc index) others (c ∷ l) ≡ added (suc index) others c (narrowed (suc index) others l)
    → narrowed (suc index) others (joined o c l) ≡ decided o index others c (narrowed (suc index) others l)
narrowed_by_order index others c l Less rec = narrowed_one (suc index) others c
narrowed_by_order index others c l Equal rec = rec
narrowed_by_order index others c l Greater rec = refl

-- what stays is the least in the order
pub narrowed_more : (index : ℕ) (args : List ArgKind) (c : Candidate) (cs : List Candidate) → narrowed index args (c ∷ cs) ≡ added index args c (narrowed index args cs)
narrowed_more index [] c [] = refl
narrowed_more index [] c (b ∷ more) = refl
narrowed_more index (Null ∷ others) c cs = narrowed_more (suc index) others c cs ∙ same (narrowed (suc index) others cs)
  where
    same : (m : List Candidate) → added (suc index) others c m ≡ added index (Null ∷ others) c m
    same [] = refl
    same (b ∷ more) = refl
narrowed_more index (a ∷ others) c cs =
    let o = nat_cmp (rank_in index c) (least index cs) in
    let l = lowest index cs in
    ap (λ l. narrowed (suc index) others l) (lowest_more index c cs)
    ∙ narrowed_by_order index others c l o (narrowed_more (suc index) others c l)
    ∙ sym (here (narrowed (suc index) others l)
    (each_narrowed (λ d. rank_in index d ≡ least index cs) (suc index) others l (at_least index cs))
    (λ e. ap (λ l. least index l) (none_lowest index cs (none_narrowed (suc index) others l e))))
  where
    here : (m : List Candidate) → Each (λ d. rank_in index d ≡ least index cs) m → (m ≡ [] → least index cs ≡ 2)
        → added index (a ∷ others) c m ≡ decided (nat_cmp (rank_in index c) (least index cs)) index others c m
    here [] e z = nothing_above index others c (least index cs) (nat_cmp (rank_in index c) (least index cs)) refl (z refl)
    here (b ∷ more) e z = decides index others c (least index cs) (nat_cmp (rank_in index c) (least index cs)) refl b more e.0
