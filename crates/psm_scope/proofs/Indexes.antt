-- A block: the loops over its indexes, and the first of a set.
use Rattle.std.proofs.Common.{◌≡◌, ◌<◌, ◌≤◌, ◌≢◌, ◌^◌, ℕ, suc, zero, ◌+◌, ◌*◌, ◌%◌, Bool, true, false, nat_lt, ◌⊎◌, length, map, drop, List, [], ◌∷◌, ◌++◌, refl, ap, sym, ◌∙◌, subst, arith, append_assoc, inl, inr, drop-cons}
use Rattle.std.specs.Prelude.{Option, Some, None, Result, Ok, Err, OnOk, OnErr, slice_index_or, slice_set}
use Rattle.std.specs.Int.{trailing_zeros, w64}
use Rattle.std.specs.Int.RustNames.{bit_or, count_ones}
use Rattle.std.specs.List.{filter}
use Rattle.std.proofs.lemmas.Bool.{cases_lt}
use Rattle.std.proofs.lemmas.Bool.Decides.{nat_tests}
use Rattle.std.proofs.lemmas.List.{get_or-set_other, get_or-set_same}
use Rattle.std.proofs.lemmas.Nat.{one_shl}
use Rattle.std.proofs.lemmas.Nat.Bits.{bit_at-trailing_zeros}
use Rattle.psm_scope.specs.declared.blocks.Block.{Block}
use Rattle.psm_scope.specs.declared.blocks.ParameterSets.{ParameterSets}
use Rattle.psm_scope.specs.declared.index.Exact.{Exact}
use Rattle.psm_scope.specs.declared.kinds.ArgKind.{ArgKind}
use Rattle.psm_scope.specs.Choice.{Candidate, goes_to, narrowed, narrowed_by}
use Rattle.psm_scope.specs.Blocks.{AreBlocks, HasSets, IsBlock, members, parameter, set_of}
use Rattle.psm_scope.specs.Exact.{exact_of}
use Rattle.psm_scope.specs.Pass.{is_more}
use Rattle.psm_scope.proofs.Found.{length_last, length_map, map_last, none_last}
use Rattle.psm_scope.proofs.Narrowed.{going}
use Rattle.psm_scope.proofs.Sets.{First, all_of, first_member, no_members, ones_members, with_member}

-- ---- lists

pub dropped_all : {A : Type 0} (xs : List A) (k : ℕ) → length xs ≤ k → drop k xs ≡ []
dropped_all [] zero le = refl
dropped_all [] (suc k) le = refl
dropped_all (x ∷ xs) zero le = absurd (omega (arith, le))
dropped_all (x ∷ xs) (suc k) le = dropped_all xs k (omega (arith, le))

pub same_default : {A : Type 0} (xs : List A) (i : ℕ) (d e : A) → i < length xs → slice_index_or xs i d ≡ slice_index_or xs i e
same_default [] i d e lt = absurd (omega (arith, lt))
same_default (x ∷ xs) zero d e lt = refl
same_default (x ∷ xs) (suc i) d e lt = same_default xs i d e (omega (arith, lt))

-- ---- the next index

pub next_going : (args : List ArgKind) (index : ℕ) (d : ArgKind) (xs ys zs : List Candidate) → index < length args
    → ys ≡ filter (λ c. goes_to (slice_index_or args index d) (parameter index c)) xs → going index (drop index args) xs ≡ zs → going (index + 1) (drop (index + 1) args) ys ≡ zs
next_going args index d xs ys zs lt made at =
    let next : suc index ≡ index + 1 = omega arith in
    subst (λ n. going n (drop n args) ys ≡ zs) next
    (ap (going (suc index) (drop (suc index) args)) made ∙ sym (ap (λ l. going index l xs) (drop-cons args index d lt)) ∙ at)

pub last_going : (args : List ArgKind) (index : ℕ) (xs zs : List Candidate) → length args ≤ index → going index (drop index args) xs ≡ zs → xs ≡ zs
last_going args index xs zs le at = sym (ap (λ l. going index l xs) (dropped_all args index le)) ∙ at

pub next_narrowed : (args : List ArgKind) (index : ℕ) (d : ArgKind) (xs ys zs : List Candidate) → index < length args
    → ys ≡ narrowed_by (slice_index_or args index d) index xs → narrowed index (drop index args) xs ≡ zs → narrowed (index + 1) (drop (index + 1) args) ys ≡ zs
next_narrowed args index d xs ys zs lt made at =
    let next : suc index ≡ index + 1 = omega arith in
    subst (λ n. narrowed n (drop n args) ys ≡ zs) next
    (ap (narrowed (suc index) (drop (suc index) args)) made ∙ sym (ap (λ l. narrowed index l xs) (drop-cons args index d lt)) ∙ at)

-- what holds of the items below an index holds of those up to it once the item there is replaced by one of which it holds
pub next_set : (P : ℕ → ParameterSets → Type 0) (items : List ParameterSets) (index p : ℕ) (new d : ParameterSets) → index < length items → (p < index → P p (slice_index_or items p d)) → P index new → p < index + 1
    → P p (slice_index_or (slice_set items index new) p d)
next_set P items index p new d within below here lt = by (cases_lt p index)
  where
    by : (p < index) ⊎ (index ≤ p) → P p (slice_index_or (slice_set items index new) p d)
    by (inl less) = subst (λ s. P p s) (sym (get_or-set_other items index p new d (omega (arith, less)))) (below less)
    by (inr more) =
        let at : index ≡ p = omega (arith, more, lt) in
        subst (λ q. P q (slice_index_or (slice_set items index new) q d)) at (subst (λ s. P index s) (sym (get_or-set_same items index new d within)) here)

pub left_set : (items : List ParameterSets) (index p : ℕ) (new d : ParameterSets) → index + 1 ≤ p → slice_index_or (slice_set items index new) p d ≡ slice_index_or items p d
left_set items index p new d le = get_or-set_other items index p new d (omega (arith, le))

-- ---- one function more

pub one_bit : (k n : ℕ) → k ≡ n → n < 64 → 1 * 2 ^ k % 18446744073709551616 ≡ 2 ^ n
one_bit k n e lt = ap (λ k. 1 * 2 ^ k % 18446744073709551616) e ∙ one_shl n 64 lt

module _ (cs : List Candidate) (b : Block) (is : IsBlock cs b) where
  pub as_many : length b.numbers.items ≡ length cs
  as_many = ap length is.numbers ∙ length_map (λ (c : Candidate). c.0) cs

  pub more_block : (new : Block) (c : Candidate) → length b.numbers.items < 64 → new.numbers.items ≡ b.numbers.items ++ c.0 ∷ [] → new.all ≡ bit_or b.all (2 ^ length cs)
      → ((index : ℕ) (d : ParameterSets) → index < length new.parameter_sets.items → HasSets index (cs ++ c ∷ []) (slice_index_or new.parameter_sets.items index d)) → IsBlock (cs ++ c ∷ []) new
  more_block new c room numbers all sets = record {
    few =
        let m : length (cs ++ c ∷ []) ≡ suc (length cs) = length_last cs c in
        let n : length b.numbers.items ≡ length cs = as_many in
        omega (arith, m, n, room);
    numbers = numbers ∙ ap (λ l. l ++ c.0 ∷ []) is.numbers ∙ sym (map_last (λ (c : Candidate). c.0) cs c);
    all = all ∙ ap (λ n. bit_or n (2 ^ length cs)) is.all ∙ with_member (λ c. true) cs c refl;
    sets = sets;
  }

-- ---- the first of a set

one_below : (more : List Candidate) → nat_lt 1 (suc (length more)) ≡ is_more more
one_below [] = refl
one_below (c ∷ cs) = grind (arith, nat_tests)

module _ (cs : List Candidate) (b : Block) (is : IsBlock cs b) (set : ℕ) (ms : List Candidate) (within : set ≤ b.all) (are : members set cs ≡ ms) where
  all_within : set ≤ all_of cs
  all_within = subst (λ n. set ≤ n) is.all within

  pub none_best : set ≡ 0 → None ≡ exact_of ms
  none_best e = sym (ap exact_of (sym are ∙ ap (λ n. members n cs) e ∙ no_members cs))

  module _ (some : 0 < set) (fits : set < 2 ^ 64) where
    first : First (trailing_zeros w64 set) (members set cs) cs
    first = let at = bit_at-trailing_zeros w64 set some fits in first_member set (trailing_zeros w64 set) cs all_within at.1 at.2

    pub best_within : trailing_zeros w64 set < length b.numbers.items
    best_within = let lt : trailing_zeros w64 set < length cs = first.within in let n : length b.numbers.items ≡ length cs = as_many cs b is in omega (arith, lt, n)

    pub best_is : (number : ℕ) (tied : Bool) → number ≡ slice_index_or b.numbers.items (trailing_zeros w64 set) number → tied ≡ nat_lt 1 (count_ones set)
        → Some (record { number = number; tied = tied }) ≡ exact_of ms
    best_is number tied at ones =
        let n : number ≡ first.head.0 = at ∙ ap (λ l. slice_index_or l (trailing_zeros w64 set) number) is.numbers ∙ first.number number in
        let l : suc (length first.more) ≡ count_ones set = sym (ap length first.is) ∙ ones_members set cs all_within in
        let t : tied ≡ is_more first.more = ones ∙ sym (ap (nat_lt 1) l) ∙ one_below first.more in
        (λ i. Some (record { number = n i; tied = t i })) ∙ sym (ap exact_of (sym are ∙ first.is))

-- ---- blocks in a row

pub ok_then : {A E : Type 0} {P Q : Type 0} (r : Result A E) → (P → Q) → OnOk r P → OnOk r Q
ok_then (Ok a) f p = f p
ok_then (Err e) f p = p

pub err_then : {A E : Type 0} {P Q : Type 0} (r : Result A E) → (P → Q) → OnErr r P → OnErr r Q
err_then (Ok a) f p = p
err_then (Err e) f p = f p

pub sets_at : (count : ℕ) (cs : List Candidate) (bs : List Block) (k : ℕ) (d : Block) → AreBlocks count cs bs → k < length bs → length (slice_index_or bs k d).parameter_sets.items ≡ count
sets_at count cs [] k d are lt = absurd (omega (arith, lt))
sets_at count cs (b ∷ bs) zero d are lt = are.3
sets_at count cs (b ∷ bs) (suc k) d are lt = sets_at count are.1 bs k d are.5 (omega (arith, lt))

-- the last block is replaced by one with more functions
pub last_more : (count : ℕ) (cs more : List Candidate) (bs : List Block) (k : ℕ) (new d : Block) → AreBlocks count cs bs → suc k ≡ length bs
    → ((ds : List Candidate) → IsBlock ds (slice_index_or bs k d) → IsBlock (ds ++ more) new) → length new.parameter_sets.items ≡ count → AreBlocks count (cs ++ more) (slice_set bs k new)
last_more count cs more [] k new d are last grows parameter_sets = absurd (omega (arith, last))
last_more count cs more (b ∷ []) zero new d are last grows parameter_sets =
    let none : are.1 ≡ [] = are.5 in
    let first : are.0 ≡ cs = sym (none_last are.0) ∙ sym (ap (λ l. are.0 ++ l) none) ∙ are.2 in
    (are.0 ++ more, [], none_last (are.0 ++ more) ∙ ap (λ l. l ++ more) first, parameter_sets, grows are.0 are.4, refl)
last_more count cs more (b ∷ []) (suc k) new d are last grows parameter_sets = absurd (omega (arith, last))
last_more count cs more (b ∷ e ∷ bs) zero new d are last grows parameter_sets = absurd (omega (arith, last))
last_more count cs more (b ∷ e ∷ bs) (suc k) new d are last grows parameter_sets = (
  are.0,
  are.1 ++ more,
  sym (append_assoc are.0 are.1 more) ∙ ap (λ l. l ++ more) are.2,
  are.3,
  are.4,
  last_more count are.1 more (e ∷ bs) k new d are.5 (omega (arith, last)) grows parameter_sets,
)

pub last_same : (count : ℕ) (cs : List Candidate) (bs : List Block) (k : ℕ) (new d : Block) → AreBlocks count cs bs → suc k ≡ length bs
    → ((ds : List Candidate) → IsBlock ds (slice_index_or bs k d) → IsBlock ds new) → length new.parameter_sets.items ≡ count → AreBlocks count cs (slice_set bs k new)
last_same count cs bs k new d are last keeps parameter_sets =
    subst (λ l. AreBlocks count l (slice_set bs k new)) (none_last cs)
    (last_more count cs [] bs k new d are last (λ ds is. subst (λ l. IsBlock l new) (sym (none_last ds)) (keeps ds is)) parameter_sets)

-- a block comes after the others
pub one_after : (count : ℕ) (cs ds : List Candidate) (bs : List Block) (new : Block) → AreBlocks count cs bs → IsBlock ds new → length new.parameter_sets.items ≡ count → AreBlocks count (cs ++ ds) (bs ++ new ∷ [])
one_after count cs ds [] new are is parameter_sets = (ds, [], none_last ds ∙ ap (λ l. l ++ ds) (sym are), parameter_sets, is, refl)
one_after count cs ds (b ∷ bs) new are is parameter_sets =
    (are.0, are.1 ++ ds, sym (append_assoc are.0 are.1 ds) ∙ ap (λ l. l ++ ds) are.2, are.3, are.4, one_after count are.1 ds bs new are.5 is parameter_sets)
