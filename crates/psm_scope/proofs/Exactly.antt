-- An argument's own kind is the lowest that it goes to. So where no argument is NULL, the functions with exactly the arguments' kinds
-- are the ones that stay.
use Rattle.std.proofs.Common.{◌≡◌, ℕ, suc, zero, ◌<◌, ◌≤◌, Bool, true, false, ◌&&◌, nat_eq, nat_le, length, drop, List, [], ◌∷◌, refl, ap, sym, ◌∙◌, subst, arith}
use Rattle.std.specs.Prelude.{slice_index_or, if◌then◌else◌}
use Rattle.std.specs.Cmp.Lexicographic.{pointwise}
use Rattle.std.specs.List.{list_all}
use Rattle.std.specs.Ordering.{nat_cmp, ordering_then}
use Rattle.std.specs.declared.cmp.Ordering.{Ordering}
use Rattle.std.specs.declared.cmp.Ordering.TheVariants.{Less, Equal, Greater}
use Rattle.std.specs.Bool.{Decides}
use Rattle.std.proofs.lemmas.Bool.Decides.{nat_tests}
use Rattle.std.proofs.lemmas.Slice.Eq.{slice_eq-Decides}
use Rattle.psm_scope.specs.declared.kinds.ArgKind.{ArgKind}
use Rattle.psm_scope.specs.declared.kinds.ArgKind.TheVariants.{SmallInt, Integer, Numeric, Char, VarChar, Null}
use Rattle.psm_scope.specs.Choice.{Candidate, Signature, all_go, candidates, chosen, goes_to, is_number, is_text, narrowed, only, rank}
use Rattle.psm_scope.specs.Exact.{exact, is_typed}
use Rattle.psm_scope.specs.KindNumbers.{is_kind, kind_number}
use Rattle.psm_scope.specs.Pass.{added, joined, order, order_in}
use Rattle.psm_scope.proofs.Lists.{both}
use Rattle.psm_scope.proofs.Narrowing.{Each, narrowed_more, narrowed_none}

-- ---- kinds are distinguished by their numbers

abbrev kind_at : ℕ → ArgKind
kind_at zero = SmallInt
kind_at (suc zero) = Integer
kind_at (suc (suc zero)) = Numeric
kind_at (suc (suc (suc zero))) = Char
kind_at (suc (suc (suc (suc zero)))) = VarChar
kind_at (suc (suc (suc (suc (suc n))))) = Null

kind_back : (a : ArgKind) → kind_at (kind_number a) ≡ a
kind_back SmallInt = refl
kind_back Integer = refl
kind_back Numeric = refl
kind_back Char = refl
kind_back VarChar = refl
kind_back Null = refl

pub is_kind-Decides : (a b : ArgKind) → Decides (is_kind a b) (a ≡ b)
is_kind-Decides a b = (
  λ e. let n : kind_number a ≡ kind_number b = grind (arith, nat_tests, e) in sym (kind_back a) ∙ ap kind_at n ∙ kind_back b,
  λ e. let n : kind_number a ≡ kind_number b = ap kind_number e in grind (arith, nat_tests, n),
)

pub are_kinds-Decides : (xs ys : List ArgKind) → Decides (pointwise is_kind xs ys) (xs ≡ ys)
are_kinds-Decides xs ys = slice_eq-Decides is_kind-Decides xs ys (pointwise is_kind xs ys) refl

-- ---- the lowest kind that an argument goes to

abbrev number_at : ℕ → ArgKind
number_at zero = SmallInt
number_at (suc zero) = Integer
number_at (suc (suc n)) = Numeric

number_back : (p : ArgKind) → is_number p ≡ true → number_at (rank p) ≡ p
number_back SmallInt e = refl
number_back Integer e = refl
number_back Numeric e = refl
number_back Char e = cc
number_back VarChar e = cc
number_back Null e = cc

abbrev text_at : ℕ → ArgKind
text_at zero = Char
text_at (suc n) = VarChar

text_back : (p : ArgKind) → is_text p ≡ true → text_at (rank p) ≡ p
text_back SmallInt e = cc
text_back Integer e = cc
text_back Numeric e = cc
text_back Char e = refl
text_back VarChar e = refl
text_back Null e = cc

own_lowest : (a p : ArgKind) → is_typed a ≡ true → goes_to a p ≡ true → (rank a ≤ rank p) × (rank a ≡ rank p → a ≡ p)
own_lowest SmallInt p t e = (omega arith, λ r. ap number_at r ∙ number_back p e)
own_lowest Integer p t e =
    let b = both (is_number p) (nat_le 1 (rank p)) e in
    let l : nat_le 1 (rank p) ≡ true = b.1 in
    (grind (arith, nat_tests, l), λ r. ap number_at r ∙ number_back p b.0)
own_lowest Numeric p t e =
    let b = both (is_number p) (nat_le 2 (rank p)) e in
    let l : nat_le 2 (rank p) ≡ true = b.1 in
    (grind (arith, nat_tests, l), λ r. ap number_at r ∙ number_back p b.0)
own_lowest Char p t e = (omega arith, λ r. ap text_at r ∙ text_back p e)
own_lowest VarChar p t e =
    let b = both (is_text p) (nat_le 1 (rank p)) e in
    let l : nat_le 1 (rank p) ≡ true = b.1 in
    (grind (arith, nat_tests, l), λ r. ap text_at r ∙ text_back p b.0)
own_lowest Null p t e = cc

goes_self : (a : ArgKind) → goes_to a a ≡ true
goes_self SmallInt = refl
goes_self Integer = refl
goes_self Numeric = refl
goes_self Char = refl
goes_self VarChar = refl
goes_self Null = refl

all_go_self : (args : List ArgKind) → all_go args args ≡ true
all_go_self [] = refl
all_go_self (a ∷ others) = ap (λ b. b && all_go others others) (goes_self a) ∙ all_go_self others

-- ---- how exactly the arguments' kinds compare with others that they go to

order_typed : (a k l : ArgKind) → is_typed a ≡ true → order_in a k l ≡ nat_cmp (rank k) (rank l)
order_typed SmallInt k l t = refl
order_typed Integer k l t = refl
order_typed Numeric k l t = refl
order_typed Char k l t = refl
order_typed VarChar k l t = refl
order_typed Null k l t = cc

cmp_same : (n : ℕ) → nat_cmp n n ≡ Equal
cmp_same n = grind (arith, nat_tests)

order_in_self : (a k : ArgKind) → order_in a k k ≡ Equal
order_in_self SmallInt k = cmp_same (rank k)
order_in_self Integer k = cmp_same (rank k)
order_in_self Numeric k = cmp_same (rank k)
order_in_self Char k = cmp_same (rank k)
order_in_self VarChar k = cmp_same (rank k)
order_in_self Null k = refl

order_self : (index : ℕ) (args ks : List ArgKind) → order index args ks ks ≡ Equal
order_self index [] ks = refl
order_self index (a ∷ others) ks =
    ap (λ o. ordering_then o (order (suc index) others ks ks)) (order_in_self a (slice_index_or ks index Null)) ∙ order_self (suc index) others ks

head_there : (ks : List ArgKind) (index : ℕ) (x : ArgKind) (others : List ArgKind) → drop index ks ≡ x ∷ others
    → (slice_index_or ks index Null ≡ x) × (drop (suc index) ks ≡ others)
head_there [] zero x others e = cc
head_there [] (suc k) x others e = cc
head_there (y ∷ ys) zero x others e = let h : y ≡ x = cc in let t : ys ≡ others = cc in (h, t)
head_there (y ∷ ys) (suc k) x others e = head_there ys k x others e

module _ (index : ℕ) (others ks ls : List ArgKind) (a p : ArgKind) (typed : is_typed a ≡ true) (head : slice_index_or ks index Null ≡ a) (other : slice_index_or ls index Null ≡ p) where
  abbrev up : Ordering
  up = order (suc index) others ks ls

  abbrev down : Ordering
  down = order (suc index) others ls ks

  order_up : (o : Ordering) → nat_cmp (rank a) (rank p) ≡ o → order index (a ∷ others) ks ls ≡ ordering_then o up
  order_up o e =
      ap (λ k. ordering_then (order_in a k (slice_index_or ls index Null)) up) head ∙ ap (λ l. ordering_then (order_in a a l) up) other
      ∙ ap (λ q. ordering_then q up) (order_typed a a p typed ∙ e)

  order_down : (o : Ordering) → nat_cmp (rank p) (rank a) ≡ o → order index (a ∷ others) ls ks ≡ ordering_then o down
  order_down o e =
      ap (λ k. ordering_then (order_in a (slice_index_or ls index Null) k) down) head ∙ ap (λ l. ordering_then (order_in a l a) down) other
      ∙ ap (λ q. ordering_then q down) (order_typed a p a typed ∙ e)

-- ks are exactly the arguments' kinds, ls others that they go to
pub before : (index : ℕ) (args ks ls rest : List ArgKind) → list_all is_typed args ≡ true → drop index ks ≡ args → drop index ls ≡ rest → all_go args rest ≡ true
    → pointwise is_kind args rest ≡ false → (order index args ks ls ≡ Less) × (order index args ls ks ≡ Greater)
before index [] ks ls [] typed e f go differ = cc
before index [] ks ls (p ∷ ps) typed e f go differ = cc
before index (a ∷ others) ks ls [] typed e f go differ = cc
before index (a ∷ others) ks ls (p ∷ ps) typed e f go differ =
    let t = both (is_typed a) (list_all is_typed others) typed in
    let g = both (goes_to a p) (all_go others ps) go in
    let h = head_there ks index a others e in
    let r = head_there ls index p ps f in
    let own = own_lowest a p t.0 g.0 in
    by (nat_cmp (rank a) (rank p)) refl t.0 h.0 r.0 own.0 own.1 (λ d. before (suc index) others ks ls ps t.1 h.1 r.1 g.1 d)
  where
    by : (o : Ordering) → nat_cmp (rank a) (rank p) ≡ o → is_typed a ≡ true → slice_index_or ks index Null ≡ a → slice_index_or ls index Null ≡ p
        → rank a ≤ rank p → (rank a ≡ rank p → a ≡ p)
        → (pointwise is_kind others ps ≡ false → (order (suc index) others ks ls ≡ Less) × (order (suc index) others ls ks ≡ Greater))
        → (order index (a ∷ others) ks ls ≡ Less) × (order index (a ∷ others) ls ks ≡ Greater)
    by Less c t h r low same rec =
        let d : nat_cmp (rank p) (rank a) ≡ Greater = grind (arith, nat_tests, c) in
        (order_up index others ks ls a p t h r Less c, order_down index others ks ls a p t h r Greater d)
    by Equal c t h r low same rec =
        let n : rank a ≡ rank p = grind (arith, nat_tests, c) in
        let k : is_kind a p ≡ true = (is_kind-Decides a p).1 (same n) in
        let d : nat_cmp (rank p) (rank a) ≡ Equal = ap (λ m. nat_cmp m (rank a)) (sym n) ∙ cmp_same (rank a) in
        let o = rec (sym (ap (λ b. b && pointwise is_kind others ps) k) ∙ differ) in
        (order_up index others ks ls a p t h r Equal c ∙ o.0, order_down index others ks ls a p t h r Equal d ∙ o.1)
    by Greater c t h r low same rec = let g : rank p < rank a = grind (arith, nat_tests, c) in absurd (omega (arith, g, low))

-- ---- what stays beside the functions with exactly the arguments' kinds

module _ (name : List ℕ) (args : List ArgKind) (typed : list_all is_typed args ≡ true) where
  -- a candidate with other kinds
  abbrev Other : Candidate → Type 0
  Other c = (all_go args c.1 ≡ true) × (pointwise is_kind args c.1 ≡ false)

  abbrev Stays : List Candidate → List Candidate → Type 0
  Stays [] ns = Each Other ns
  Stays (e ∷ es) ns = (ns ≡ e ∷ es) × (args ≡ e.1)

  other_joined : (o : Ordering) (c b : Candidate) (more : List Candidate) → Other c → Each Other (b ∷ more) → Each Other (joined o c (b ∷ more))
  other_joined Less c b more h e = (h, tt)
  other_joined Equal c b more h e = (h, e)
  other_joined Greater c b more h e = e

  other_added : (c : Candidate) (ns : List Candidate) → Other c → Each Other ns → Each Other (added 0 args c ns)
  other_added c [] h e = (h, tt)
  other_added c (b ∷ more) h e = other_joined (order 0 args c.1 b.1) c b more h e

  another : (c : Candidate) (es ns : List Candidate) → Other c → Stays es ns → Stays es (added 0 args c ns)
  another c [] ns h s = other_added c ns h s
  another c (e ∷ es) ns h s =
      let following : order 0 args c.1 e.1 ≡ Greater = ap (λ ks. order 0 args c.1 ks) (sym s.1) ∙ (before 0 args args c.1 c.1 typed refl refl h.0 h.1).1 in
      (ap (λ l. added 0 args c l) s.0 ∙ ap (λ o. joined o c (e ∷ es)) following, s.1)

  one_exact : (c : Candidate) (es ns : List Candidate) → args ≡ c.1 → Stays es ns → Stays (c ∷ es) (added 0 args c ns)
  one_exact c [] [] k s = (refl, k)
  one_exact c [] (b ∷ more) k s =
      let ahead : order 0 args c.1 b.1 ≡ Less = ap (λ ks. order 0 args ks b.1) (sym k) ∙ (before 0 args args b.1 b.1 typed refl refl s.0.0 s.0.1).0 in
      (ap (λ o. joined o c (b ∷ more)) ahead, k)
  one_exact c (e ∷ es) ns k s =
      let beside : order 0 args c.1 e.1 ≡ Equal = ap (λ ks. order 0 args ks e.1) (sym k) ∙ ap (λ ks. order 0 args args ks) (sym s.1) ∙ order_self 0 args args in
      (ap (λ l. added 0 args c l) s.0 ∙ ap (λ o. joined o c (e ∷ es)) beside, k)

  -- a function more, with whether it is a candidate, whether it has the kinds and whether it has the name
  function_more : (c : Candidate) (es cs : List Candidate) (named goes kinds : Bool) → all_go args c.1 ≡ goes → pointwise is_kind args c.1 ≡ kinds → Stays es (narrowed 0 args cs)
      → Stays (if named && kinds then c ∷ es else es) (narrowed 0 args (if named && goes then c ∷ cs else cs))
  function_more c es cs false goes kinds g k s = s
  function_more c es cs true true true g k s =
      subst (λ ns. Stays (c ∷ es) ns) (sym (narrowed_more 0 args c cs)) (one_exact c es (narrowed 0 args cs) ((are_kinds-Decides args c.1).0 k) s)
  function_more c es cs true true false g k s = subst (λ ns. Stays es ns) (sym (narrowed_more 0 args c cs)) (another c es (narrowed 0 args cs) (g, k) s)
  function_more c es cs true false true g k s =
      let e : all_go args c.1 ≡ true = ap (λ ks. all_go args ks) (sym ((are_kinds-Decides args c.1).0 k)) ∙ all_go_self args in cc
  function_more c es cs true false false g k s = s

  stays : (n : ℕ) (routines : List Signature) → Stays (exact n name args routines) (narrowed 0 args (candidates n name args routines))
  stays n [] = subst (λ ns. Each Other ns) (sym (narrowed_none 0 args)) tt
  stays n (s ∷ others) =
      function_more (n, s.kinds) (exact (suc n) name args others) (candidates (suc n) name args others) (pointwise nat_eq name s.name) (all_go args s.kinds) (pointwise is_kind args s.kinds)
      refl refl (stays (suc n) others)

  chosen_by : (es ns : List Candidate) → Stays es ns → 0 < length es → only ns ≡ only es
  chosen_by [] ns s there = absurd (omega (arith, there))
  chosen_by (e ∷ es) ns s there = ap only s.0

  pub chosen_exactly : (routines : List Signature) → 0 < length (exact 0 name args routines) → chosen routines name args ≡ only (exact 0 name args routines)
  chosen_exactly routines there = chosen_by (exact 0 name args routines) (narrowed 0 args (candidates 0 name args routines)) (stays 0 routines) there
