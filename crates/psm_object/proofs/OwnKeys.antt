-- FOREIGN KEY constraints in the order of the referencing tables.
use Rattle.std.proofs.Common.{◌≡◌, ◌<◌, ◌≤◌, ℕ, zero, suc, ◌+◌, Bool, true, false, ◌&&◌, nat_eq, nat_le, List, [], ◌∷◌, cond, drop, length, take, refl, ap, sym, ◌∙◌, arith, inl, inr}
use Rattle.std.proofs.lemmas.Bool.{cases_lt, eqb-false, eqb-true, le-leb, leb-true, ne_eqb}
use Rattle.psm_table.specs.declared.definition.ForeignKey.{ForeignKey}
use Rattle.psm_code.specs.TableRules.{keys_from}
use Rattle.psm_object.specs.OwnKeys.{ascend, count_at_front}

and_first : (a b : Bool) → (a && b) ≡ true → a ≡ true
and_first true b h = refl
and_first false b h = absurd (cc)

and_second : (a b : Bool) → (a && b) ≡ true → b ≡ true
and_second true b h = h
and_second false b h = absurd (cc)

pub count_within : (n : ℕ) (keys : List ForeignKey) → count_at_front n keys ≤ length keys
count_within n [] = omega arith
count_within n (key ∷ keys) = by (nat_eq key.from n) (count_within n keys) where
  by : (b : Bool) → count_at_front n keys ≤ length keys → cond b (suc (count_at_front n keys)) 0 ≤ suc (length keys)
  by true h = omega (arith, h)
  by false h = omega arith

ascend_from : (at n : ℕ) (keys : List ForeignKey) → ascend at keys ≡ true → n ≤ at → ascend n keys ≡ true
ascend_from at n [] h l = refl
ascend_from at n (key ∷ keys) h l =
    let first : at ≤ key.from = leb-true at key.from (and_first (nat_le at key.from) (ascend key.from keys) h) in
    ap (λ b. b && ascend key.from keys) (le-leb n key.from (omega (arith, l, first))) ∙ and_second (nat_le at key.from) (ascend key.from keys) h

-- none is of a table before the first
none_from : (n at : ℕ) (keys : List ForeignKey) → ascend at keys ≡ true → n < at → keys_from keys n ≡ []
none_from n at [] h l = refl
none_from n at (key ∷ keys) h l =
    let first : at ≤ key.from = leb-true at key.from (and_first (nat_le at key.from) (ascend key.from keys) h) in
    let other : nat_eq key.from n ≡ false = ne_eqb key.from n (λ e. omega (arith, l, first, e)) in
    ap (λ b. cond b (key ∷ keys_from keys n) (keys_from keys n)) other ∙ none_from n key.from keys (and_second (nat_le at key.from) (ascend key.from keys) h) (omega (arith, l, first))

above : (n m : ℕ) → n ≤ m → nat_eq m n ≡ false → n < m
above n m l e = elim (cases_lt n m) [ inl h ↦ h | inr h ↦ absurd (eqb-false m n e (omega (arith, l, h))) ]

-- those at the front are all of the table
pub own_is : (n : ℕ) (keys : List ForeignKey) → ascend n keys ≡ true → keys_from (take (count_at_front n keys) keys) n ≡ keys_from keys n
own_is n [] h = refl
own_is n (key ∷ keys) h =
    let first : n ≤ key.from = leb-true n key.from (and_first (nat_le n key.from) (ascend key.from keys) h) in
    let rest : ascend key.from keys ≡ true = and_second (nat_le n key.from) (ascend key.from keys) h in
    by (nat_eq key.from n) (own_is n keys (ascend_from key.from n keys rest first)) (λ e. none_from n key.from keys rest (above n key.from first e)) refl where
      by : (b : Bool) → keys_from (take (count_at_front n keys) keys) n ≡ keys_from keys n → (nat_eq key.from n ≡ false → keys_from keys n ≡ []) → nat_eq key.from n ≡ b
          → keys_from (take (cond b (suc (count_at_front n keys)) 0) (key ∷ keys)) n ≡ keys_from (key ∷ keys) n
      by true q none e = ap (λ b. cond b (key ∷ keys_from (take (count_at_front n keys) keys) n) (keys_from (take (count_at_front n keys) keys) n)) e ∙ ap (λ l. key ∷ l) q ∙ sym (ap (λ b. cond b (key ∷ keys_from keys n) (keys_from keys n)) e)
      by false q none e = sym (none e) ∙ sym (ap (λ b. cond b (key ∷ keys_from keys n) (keys_from keys n)) e)

-- the others are those of all other tables
pub others_are : (n : ℕ) (keys : List ForeignKey) (m : ℕ) → n < m → keys_from (drop (count_at_front n keys) keys) m ≡ keys_from keys m
others_are n [] m l = refl
others_are n (key ∷ keys) m l = by (nat_eq key.from n) (others_are n keys m l) refl where
  by : (b : Bool) → keys_from (drop (count_at_front n keys) keys) m ≡ keys_from keys m → nat_eq key.from n ≡ b → keys_from (drop (cond b (suc (count_at_front n keys)) 0) (key ∷ keys)) m ≡ keys_from (key ∷ keys) m
  by true q e =
      let own : key.from ≡ n = eqb-true key.from n e in
      let other : nat_eq key.from m ≡ false = ne_eqb key.from m (λ g. omega (arith, l, own, g)) in
      q ∙ sym (ap (λ b. cond b (key ∷ keys_from keys m) (keys_from keys m)) other)
  by false q e = refl

pub others_ascend : (n : ℕ) (keys : List ForeignKey) → ascend n keys ≡ true → ascend (suc n) (drop (count_at_front n keys) keys) ≡ true
others_ascend n [] h = refl
others_ascend n (key ∷ keys) h =
    let first : n ≤ key.from = leb-true n key.from (and_first (nat_le n key.from) (ascend key.from keys) h) in
    let rest : ascend key.from keys ≡ true = and_second (nat_le n key.from) (ascend key.from keys) h in
    by (nat_eq key.from n) (others_ascend n keys (ascend_from key.from n keys rest first)) (λ e. ap (λ b. b && ascend key.from keys) (le-leb (suc n) key.from (omega (arith, above n key.from first e))) ∙ rest) refl where
      by : (b : Bool) → ascend (suc n) (drop (count_at_front n keys) keys) ≡ true → (nat_eq key.from n ≡ false → ascend (suc n) (key ∷ keys) ≡ true) → nat_eq key.from n ≡ b → ascend (suc n) (drop (cond b (suc (count_at_front n keys)) 0) (key ∷ keys)) ≡ true
      by true q later e = q
      by false q later e = later e
