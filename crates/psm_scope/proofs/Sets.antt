-- Sets of functions: what operations on their numbers do to their members.
use Rattle.std.proofs.Common.{◌≡◌, ◌<◌, ◌≤◌, ◌≢◌, ◌^◌, ℕ, suc, zero, ◌+◌, ◌*◌, ◌-◌, ◌/◌, ◌%◌, Bool, true, false, not, ◌&&◌, nat_eq, nat_le, length, map, List, [], ◌∷◌, ◌++◌, refl, ap, sym, ◌∙◌, subst, arith}
use Rattle.std.specs.Prelude.{slice_index_or, if◌then◌else◌}
use Rattle.std.specs.Int.{bit_at, bit_not}
use Rattle.std.specs.Int.RustNames.{bit_and, bit_or, count_ones}
use Rattle.std.specs.List.{filter}
use Rattle.std.proofs.Math.Nat.{pow-suc}
use Rattle.std.proofs.lemmas.Bool.Decides.{nat_tests}
use Rattle.std.proofs.lemmas.Nat.{and_le_l, and_le_r, and_mod, and_shr, or_block, ones_cat}
use Rattle.std.proofs.lemmas.Nat.Bits.{bit_at-suc, bit_at_lowest, bit_at-zero}
use Rattle.psm_scope.specs.Choice.{Candidate}
use Rattle.psm_scope.specs.Blocks.{bit, members, set_of}

-- the set of all
abbrev pub all_of : List Candidate → ℕ
all_of cs = set_of (λ c. true) cs

-- ---- one function at a time

bit_small : (t : Bool) → bit t < 2
bit_small true = omega arith
bit_small false = omega arith

-- an operation that keeps the lowest function if it passes a test, and does so for the others
members_by : (p : Candidate → Bool) (c : Candidate) (cs : List Candidate) (w u : ℕ) → nat_eq (u % 2) 1 ≡ (nat_eq (w % 2) 1 && p c)
    → members (u / 2) cs ≡ filter p (members (w / 2) cs) → members u (c ∷ cs) ≡ filter p (members w (c ∷ cs))
members_by p c cs w u odd rest = (λ i. if odd i then c ∷ rest i else rest i) ∙ by (nat_eq (w % 2) 1)
  where
    by : (b : Bool) → (if b && p c then c ∷ filter p (members (w / 2) cs) else filter p (members (w / 2) cs)) ≡ filter p (if b then c ∷ members (w / 2) cs else members (w / 2) cs)
    by true = refl
    by false = refl

-- ---- those that are in two sets

and_odd : (r : ℕ) (t : Bool) → r < 2 → nat_eq (bit_and r (bit t)) 1 ≡ (nat_eq r 1 && t)
and_odd zero true lt = refl
and_odd zero false lt = refl
and_odd (suc zero) true lt = refl
and_odd (suc zero) false lt = refl
and_odd (suc (suc r)) t lt = absurd (omega (arith, lt))

and_half : (w v b : ℕ) → b < 2 → bit_and w (v * 2 + b) / 2 ≡ bit_and (w / 2) v
and_half w v b lt = let h : (v * 2 + b) / 2 ≡ v = omega (arith, lt) in and_shr w (v * 2 + b) 1 ∙ ap (bit_and (w / 2)) h

and_low : (w v b : ℕ) → b < 2 → bit_and w (v * 2 + b) % 2 ≡ bit_and (w % 2) b
and_low w v b lt = let h : (v * 2 + b) % 2 ≡ b = omega (arith, lt) in and_mod w (v * 2 + b) 1 ∙ ap (bit_and (w % 2)) h

pub and_members : (p : Candidate → Bool) (w : ℕ) (cs : List Candidate) → members (bit_and w (set_of p cs)) cs ≡ filter p (members w cs)
and_members p w [] = refl
and_members p w (c ∷ cs) =
    let v = set_of p cs in
    let b = bit (p c) in
    members_by p c cs w (bit_and w (v * 2 + b))
    (ap (λ n. nat_eq n 1) (and_low w v b (bit_small (p c))) ∙ and_odd (w % 2) (p c) (omega arith))
    (ap (λ n. members n cs) (and_half w v b (bit_small (p c))) ∙ and_members p (w / 2) cs)

-- ---- those of one set that are not in another

less_odd : (r : ℕ) (t : Bool) → r < 2 → nat_eq (r - bit_and r (bit t)) 1 ≡ (nat_eq r 1 && not t)
less_odd zero true lt = refl
less_odd zero false lt = refl
less_odd (suc zero) true lt = refl
less_odd (suc zero) false lt = refl
less_odd (suc (suc r)) t lt = absurd (omega (arith, lt))

less_parts : (w x a b : ℕ) → x / 2 ≡ a → x % 2 ≡ b → a ≤ w / 2 → b ≤ w % 2 → ((w - x) / 2 ≡ w / 2 - a) × ((w - x) % 2 ≡ w % 2 - b)
less_parts w x a b d m l k = (omega (arith, d, m, l, k), omega (arith, d, m, l, k))

pub less_members : (p : Candidate → Bool) (w : ℕ) (cs : List Candidate) → members (w - bit_and w (set_of p cs)) cs ≡ filter (λ c. not (p c)) (members w cs)
less_members p w [] = refl
less_members p w (c ∷ cs) =
    let v = set_of p cs in
    let b = bit (p c) in
    let parts = less_parts w (bit_and w (v * 2 + b)) (bit_and (w / 2) v) (bit_and (w % 2) b) (and_half w v b (bit_small (p c))) (and_low w v b (bit_small (p c)))
    (and_le_l (w / 2) v) (and_le_l (w % 2) b) in
    members_by (λ c. not (p c)) c cs w (w - bit_and w (v * 2 + b))
    (ap (λ n. nat_eq n 1) parts.1 ∙ less_odd (w % 2) (p c) (omega arith))
    (ap (λ n. members n cs) parts.0 ∙ less_members p (w / 2) cs)

-- ---- all, and none

all_odd : (n : ℕ) → (n * 2 + 1) % 2 ≡ 1
all_odd n = omega arith

all_half : (n : ℕ) → (n * 2 + 1) / 2 ≡ n
all_half n = omega arith

pub all_members : (cs : List Candidate) → members (all_of cs) cs ≡ cs
all_members [] = refl
all_members (c ∷ cs) =
    (λ i. if nat_eq (all_odd (all_of cs) i) 1 then c ∷ members (all_half (all_of cs) i) cs else members (all_half (all_of cs) i) cs)
    ∙ ap (λ l. c ∷ l) (all_members cs)

pub no_members : (cs : List Candidate) → members 0 cs ≡ []
no_members [] = refl
no_members (c ∷ cs) = no_members cs

half_within : (w n : ℕ) → w ≤ n * 2 + 1 → w / 2 ≤ n
half_within w n le = omega (arith, le)

pub none_zero : (w : ℕ) (cs : List Candidate) → w ≤ all_of cs → members w cs ≡ [] → w ≡ 0
none_zero w [] le e = omega (arith, le)
none_zero w (c ∷ cs) le e = by (nat_eq (w % 2) 1) refl e (none_zero (w / 2) cs (half_within w (all_of cs) le))
  where
    by : (b : Bool) → nat_eq (w % 2) 1 ≡ b → (if b then c ∷ members (w / 2) cs else members (w / 2) cs) ≡ [] → (members (w / 2) cs ≡ [] → w / 2 ≡ 0) → w ≡ 0
    by true odd e rec = cc
    by false odd e rec =
        let h : w / 2 ≡ 0 = rec e in
        let o : w % 2 ≡ 1 → ⊥ = grind (arith, nat_tests, odd) in
        omega (arith, h, o)

-- ---- how many, and the first

ones_half : (w : ℕ) → count_ones w ≡ count_ones (w / 2) + count_ones (w % 2)
ones_half w = let s : w ≡ w / 2 * 2 + w % 2 = omega arith in ap count_ones s ∙ ones_cat 1 (w / 2) (w % 2) (omega arith)

no_ones : count_ones 0 ≡ 0
unfolding count_ones
no_ones = refl

one_one : count_ones 1 ≡ 1
unfolding count_ones
one_one = refl

ones_by : (r n : ℕ) (c : Candidate) (l : List Candidate) → r < 2 → length l ≡ n → length (if nat_eq r 1 then c ∷ l else l) ≡ n + count_ones r
ones_by zero n c l lt e = omega (arith, e, no_ones)
ones_by (suc zero) n c l lt e = omega (arith, e, one_one)
ones_by (suc (suc r)) n c l lt e = absurd (omega (arith, lt))

pub ones_members : (w : ℕ) (cs : List Candidate) → w ≤ all_of cs → length (members w cs) ≡ count_ones w
ones_members w [] le = let z : w ≡ 0 = omega (arith, le) in sym (ap count_ones z ∙ no_ones)
ones_members w (c ∷ cs) le =
    ones_by (w % 2) (count_ones (w / 2)) c (members (w / 2) cs) (omega arith) (ones_members (w / 2) cs (half_within w (all_of cs) le))
    ∙ sym (ones_half w)

-- the function at the lowest bit is the first
pub record First (t : ℕ) (ms cs : List Candidate) : Type 0 where
  pub head : Candidate
  pub more : List Candidate
  pub is : ms ≡ head ∷ more
  pub within : t < length cs
  pub number : (d : ℕ) → slice_index_or (map (λ (c : Candidate). c.0) cs) t d ≡ head.0

pub first_member : (w t : ℕ) (cs : List Candidate) → w ≤ all_of cs → bit_at w t ≡ 1 → ((i : ℕ) → i < t → bit_at w i ≡ 0) → First t (members w cs) cs
first_member w t [] le at below = let z : w ≡ 0 = omega (arith, le) in let no : 0 ≡ 1 = sym (bit_at-zero t) ∙ ap (λ w. bit_at w t) (sym z) ∙ at in absurd (omega (arith, no))
first_member w zero (c ∷ cs) le at below =
    let odd : nat_eq (w % 2) 1 ≡ true = ap (λ n. nat_eq n 1) (sym (bit_at_lowest w) ∙ at) in
    record { head = c; more = members (w / 2) cs; is = ap (λ b. if b then c ∷ members (w / 2) cs else members (w / 2) cs) odd; within = omega arith; number = λ d. refl }
first_member w (suc t) (c ∷ cs) le at below =
    let even : nat_eq (w % 2) 1 ≡ false = ap (λ n. nat_eq n 1) (sym (bit_at_lowest w) ∙ below 0 (omega arith)) in
    let rest = first_member (w / 2) t cs (half_within w (all_of cs) le) (sym (bit_at-suc w t) ∙ at) (λ i lt. sym (bit_at-suc w i) ∙ below (suc i) (omega (arith, lt))) in
    record {
      head = rest.head;
      more = rest.more;
      is = ap (λ b. if b then c ∷ members (w / 2) cs else members (w / 2) cs) even ∙ rest.is;
      within = let lt : t < length cs = rest.within in omega (arith, lt);
      number = rest.number;
    }

-- ---- one function more

or_bit : (t : Bool) → bit_or (bit t) 0 ≡ bit t
or_bit true = refl
or_bit false = refl

pub with_member : (p : Candidate → Bool) (cs : List Candidate) (c : Candidate) → p c ≡ true → bit_or (set_of p cs) (2 ^ length cs) ≡ set_of p (cs ++ c ∷ [])
with_member p [] c is = ap (λ t. 0 * 2 + bit t) (sym is)
with_member p (d ∷ cs) c is =
    let next : 2 ^ suc (length cs) ≡ 2 ^ length cs * 2 = pow-suc 2 (length cs) in
    let padded : 2 ^ suc (length cs) ≡ 2 ^ length cs * 2 + 0 = omega (arith, next) in
    ap (bit_or (set_of p cs * 2 + bit (p d))) padded
    ∙ or_block 1 (set_of p cs) (2 ^ length cs) (bit (p d)) 0 (bit_small (p d)) (omega arith)
    ∙ ap (λ b. bit_or (set_of p cs) (2 ^ length cs) * 2 + b) (or_bit (p d))
    ∙ ap (λ n. n * 2 + bit (p d)) (with_member p cs c is)

pub without_member : (p : Candidate → Bool) (cs : List Candidate) (c : Candidate) → p c ≡ false → set_of p cs ≡ set_of p (cs ++ c ∷ [])
without_member p [] c is = ap (λ t. 0 * 2 + bit t) (sym is)
without_member p (d ∷ cs) c is = ap (λ n. n * 2 + bit (p d)) (without_member p cs c is)
