-- The functions of a block that a set keeps, argument by argument.
use Rattle.std.proofs.Common.{◌≡◌, ℕ, suc, zero, ◌<◌, ◌≤◌, ◌+◌, ◌-◌, ◌^◌, Bool, true, false, not, ◌&&◌, nat_le, length, drop, List, [], ◌∷◌, refl, ap, sym, ◌∙◌, subst, arith}
use Rattle.std.specs.Prelude.{min, slice_index_or, if◌then◌else◌}
use Rattle.std.specs.Int.RustNames.{bit_and}
use Rattle.std.specs.List.{filter}
use Rattle.std.proofs.lemmas.Bool.Decides.{nat_tests}
use Rattle.std.proofs.lemmas.Nat.{and-not, and_comm}
use Rattle.psm_scope.specs.declared.blocks.ParameterSets.{ParameterSets}
use Rattle.psm_scope.specs.declared.kinds.ArgKind.{ArgKind}
use Rattle.psm_scope.specs.declared.kinds.ArgKind.TheVariants.{SmallInt, Integer, Numeric, Char, VarChar, Null}
use Rattle.psm_scope.specs.Choice.{Candidate, all_go, goes_to, is_number, is_text, lowest, rank, rank_in}
use Rattle.psm_scope.specs.Blocks.{HasSets, HaveCount, members, parameter, set_of}
use Rattle.psm_scope.proofs.Least.{filter_filter, filter_same, kept}
use Rattle.psm_scope.proofs.Narrowing.{Each, each_kept, least, lowest_is, rank_in_small, upto}
use Rattle.psm_scope.proofs.Sets.{all_of, and_members, less_members, no_members, none_zero}

-- ---- those to whose parameters an argument goes

pub one_set : (set s : ℕ) (p : Candidate → Bool) (cs : List Candidate) → s ≡ set_of p cs → members (bit_and set s) cs ≡ filter p (members set cs)
one_set set s p cs e = ap (λ n. members (bit_and set n) cs) e ∙ and_members p set cs

pub two_sets : (set s t : ℕ) (p q : Candidate → Bool) (cs : List Candidate) → s ≡ set_of p cs → t ≡ set_of q cs
    → members (bit_and (bit_and set s) t) cs ≡ filter (λ c. p c && q c) (members set cs)
two_sets set s t p q cs e f = one_set (bit_and set s) t q cs f ∙ ap (filter q) (one_set set s p cs e) ∙ filter_filter q p (members set cs)

-- those of one set that are not in another, whose complement has 64 bits
pub others_set : (set other : ℕ) (p : Candidate → Bool) (cs : List Candidate) → set < 2 ^ 64 → other < 2 ^ 64 → other ≡ set_of p cs
    → members (bit_and set (18446744073709551615 - other)) cs ≡ filter (λ c. not (p c)) (members set cs)
others_set set other p cs fits other_fits is =
    let a : bit_and (18446744073709551615 - other) set + bit_and other set ≡ set = and-not 64 other set other_fits fits in
    let x : bit_and set (18446744073709551615 - other) ≡ bit_and (18446744073709551615 - other) set = and_comm set (18446744073709551615 - other) in
    let y : bit_and set other ≡ bit_and other set = and_comm set other in
    let e : bit_and set (18446744073709551615 - other) ≡ set - bit_and set other = omega (arith, a, x, y) in
    ap (λ n. members n cs) e ∙ ap (λ s. members (set - bit_and set s) cs) is ∙ less_members p set cs

-- ---- those with the lowest kind

up_to_none : (r : ℕ) → not (nat_le 1 r) ≡ nat_le r 0
up_to_none zero = refl
up_to_none (suc r) = grind (arith, nat_tests)

up_to_one : (r : ℕ) → not (nat_le 2 r) ≡ nat_le r 1
up_to_one r = by (nat_le 2 r) refl
  where
    by : (b : Bool) → nat_le 2 r ≡ b → not b ≡ nat_le r 1
    by true e = grind (arith, nat_tests, e)
    by false e = grind (arith, nat_tests, e)

none_up_to : (index n : ℕ) (ds : List Candidate) → n < 2 → upto index n ds ≡ [] → n < least index ds
none_up_to index n [] lt e = omega (arith, lt)
none_up_to index n (c ∷ cs) lt e = by (nat_le (rank_in index c) n) refl e (none_up_to index n cs lt)
  where
    by : (b : Bool) → nat_le (rank_in index c) n ≡ b → (if b then c ∷ upto index n cs else upto index n cs) ≡ [] → (upto index n cs ≡ [] → n < least index cs)
        → n < min (rank_in index c) (least index cs)
    by true f e rec = cc
    by false f e rec =
        let rest : n < least index cs = rec e in
        let own : n < rank_in index c = grind (arith, nat_tests, f) in
        omega (arith, rest, own)

some_up_to : (index n : ℕ) (ds : List Candidate) (d : Candidate) (more : List Candidate) → upto index n ds ≡ d ∷ more → least index ds ≤ n
some_up_to index n [] d more e = cc
some_up_to index n (c ∷ cs) d more e = by (nat_le (rank_in index c) n) refl e (some_up_to index n cs d more)
  where
    by : (b : Bool) → nat_le (rank_in index c) n ≡ b → (if b then c ∷ upto index n cs else upto index n cs) ≡ d ∷ more → (upto index n cs ≡ d ∷ more → least index cs ≤ n)
        → min (rank_in index c) (least index cs) ≤ n
    by true f e rec = let own : rank_in index c ≤ n = grind (arith, nat_tests, f) in omega (arith, own)
    by false f e rec = let rest : least index cs ≤ n = rec e in omega (arith, rest)

least_small : (index : ℕ) (ds : List Candidate) → least index ds ≤ 2
least_small index [] = omega arith
least_small index (c ∷ cs) = let s : rank_in index c ≤ 2 = rank_in_small index c in omega (arith, s)

all_up_to : (index : ℕ) (ds : List Candidate) → upto index 2 ds ≡ ds
all_up_to index [] = refl
all_up_to index (c ∷ cs) =
    let s : rank_in index c ≤ 2 = rank_in_small index c in
    let t : nat_le (rank_in index c) 2 ≡ true = grind (arith, nat_tests, s) in
    ap (λ b. if b then c ∷ upto index 2 cs else upto index 2 cs) t ∙ ap (λ l. c ∷ l) (all_up_to index cs)

module _ (index set : ℕ) (cs : List Candidate) (within : set ≤ all_of cs) where
  abbrev ds : List Candidate
  ds = members set cs

  -- those of a rank up to n, and none below
  lowest_at : (n low : ℕ) → low ≤ all_of cs → (low ≡ 0 → ⊥) → members low cs ≡ upto index n ds → n ≤ least index ds → members low cs ≡ lowest index ds
  lowest_at n low le some is above = by (members low cs) refl
    where
      by : (ms : List Candidate) → members low cs ≡ ms → members low cs ≡ lowest index ds
      by [] e = absurd (some (none_zero low cs le e))
      by (m ∷ more) e =
          let below : least index ds ≤ n = some_up_to index n ds m more (sym is ∙ e) in
          let at : n ≡ least index ds = omega (arith, below, above) in
          is ∙ ap (λ n. upto index n ds) at ∙ sym (lowest_is index ds)

  module _ (first : ℕ) (firsts : members first cs ≡ filter (λ c. not (nat_le 1 (rank (parameter index c)))) ds) (first_within : first ≤ set) where
    first_is : members first cs ≡ upto index 0 ds
    first_is = firsts ∙ (λ i. filter (λ c. up_to_none (rank_in index c) i) ds)

    empty : (low : ℕ) → low ≡ 0 → members low cs ≡ []
    empty low e = ap (λ n. members n cs) e ∙ no_members cs

    pub lowest_first : (first ≡ 0 → ⊥) → members first cs ≡ lowest index ds
    lowest_first some = lowest_at 0 first (omega (arith, first_within, within)) some first_is (omega arith)

    module _ (second : ℕ) (seconds : members second cs ≡ filter (λ c. not (nat_le 2 (rank (parameter index c)))) ds) (second_within : second ≤ set) where
      second_is : members second cs ≡ upto index 1 ds
      second_is = seconds ∙ (λ i. filter (λ c. up_to_one (rank_in index c) i) ds)

      pub lowest_second : first ≡ 0 → (second ≡ 0 → ⊥) → members second cs ≡ lowest index ds
      lowest_second none some =
          let above : 0 < least index ds = none_up_to index 0 ds (omega arith) (sym first_is ∙ empty first none) in
          lowest_at 1 second (omega (arith, second_within, within)) some second_is (omega (arith, above))

      pub lowest_last : second ≡ 0 → ds ≡ lowest index ds
      lowest_last none =
          let above : 1 < least index ds = none_up_to index 1 ds (omega arith) (sym second_is ∙ empty second none) in
          let small : least index ds ≤ 2 = least_small index ds in
          let at : 2 ≡ least index ds = omega (arith, above, small) in
          sym (all_up_to index ds) ∙ ap (λ n. upto index n ds) at ∙ sym (lowest_is index ds)

-- ---- argument by argument

-- those to whose parameters from an index on the arguments go
abbrev pub going : ℕ → List ArgKind → List Candidate → List Candidate
going index [] cs = cs
going index (a ∷ others) cs = going (suc index) others (filter (λ c. goes_to a (parameter index c)) cs)

drop_at : (ks : List ArgKind) (index n : ℕ) → length (drop index ks) ≡ suc n → (drop index ks ≡ slice_index_or ks index Null ∷ drop (suc index) ks) × (length (drop (suc index) ks) ≡ n)
drop_at [] zero n e = absurd (omega (arith, e))
drop_at [] (suc index) n e = absurd (omega (arith, e))
drop_at (k ∷ ks) zero n e = (refl, omega (arith, e))
drop_at (k ∷ ks) (suc index) n e = drop_at ks index n e

none_left : (ks : List ArgKind) → length ks ≡ 0 → all_go [] ks ≡ true
none_left [] e = refl
none_left (k ∷ ks) e = absurd (omega (arith, e))

each_same : (P : Candidate → Type 0) (p q : Candidate → Bool) → ((c : Candidate) → P c → p c ≡ q c) → (cs : List Candidate) → Each P cs → Each (λ c. p c ≡ q c) cs
each_same P p q h [] e = tt
each_same P p q h (c ∷ cs) e = (h c e.0, each_same P p q h cs e.1)

each_left : (index n : ℕ) (cs : List Candidate) → Each (λ c. length (drop index c.1) ≡ suc n) cs → Each (λ c. length (drop (suc index) c.1) ≡ n) cs
each_left index n [] e = tt
each_left index n (c ∷ cs) e = ((drop_at c.1 index n e.0).1, each_left index n cs e.1)

going_from : (index : ℕ) (args : List ArgKind) (cs : List Candidate) → Each (λ c. length (drop index c.1) ≡ length args) cs → going index args cs ≡ filter (λ c. all_go args (drop index c.1)) cs
going_from index [] cs e =
    sym (filter_same (λ c. all_go [] (drop index c.1)) (λ c. true) cs
    (each_same (λ c. length (drop index c.1) ≡ 0) (λ c. all_go [] (drop index c.1)) (λ c. true) (λ c l. none_left (drop index c.1) l) cs e)
    ∙ kept cs)
going_from index (a ∷ others) cs e =
    going_from (suc index) others (filter (λ c. goes_to a (parameter index c)) cs)
    (each_kept (λ c. length (drop (suc index) c.1) ≡ length others) (λ c. length (drop (suc index) c.1) ≡ length others) (λ c. goes_to a (parameter index c)) (λ c l is. l) cs
    (each_left index (length others) cs e))
    ∙ filter_filter (λ c. all_go others (drop (suc index) c.1)) (λ c. goes_to a (parameter index c)) cs
    ∙ filter_same (λ c. goes_to a (parameter index c) && all_go others (drop (suc index) c.1)) (λ c. all_go (a ∷ others) (drop index c.1)) cs
    (each_same (λ c. length (drop index c.1) ≡ suc (length others)) (λ c. goes_to a (parameter index c) && all_go others (drop (suc index) c.1)) (λ c. all_go (a ∷ others) (drop index c.1))
    (λ c l. sym (ap (all_go (a ∷ others)) (drop_at c.1 index (length others) l).0)) cs e)

have_each : (n : ℕ) (cs : List Candidate) → HaveCount n cs → Each (λ c. length (drop 0 c.1) ≡ n) cs
have_each n [] h = tt
have_each n (c ∷ cs) h = (h.0, have_each n cs h.1)

pub going_all : (args : List ArgKind) (cs : List Candidate) → HaveCount (length args) cs → going 0 args cs ≡ filter (λ c. all_go args c.1) cs
going_all args cs h = going_from 0 args cs (have_each (length args) cs h)
