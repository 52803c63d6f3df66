-- The numbers at the head of a run.
use Rattle.std.proofs.Common.{◌≡◌, ℕ, zero, suc, ◌<◌, ◌≤◌, List, [], ◌∷◌, ◌++◌, length, set, Bool, true, not, refl, ap, sym, ◌∙◌, arith, Some}
use Rattle.std.proofs.Math.Dec.{eqb-suc-zero}
use Rattle.std.specs.Prelude.{false, insert, nat_eq, if◌then◌else◌, Option, None}
use Rattle.std.specs.declared.cmp.Ordering.{Ordering}
use Rattle.std.specs.declared.cmp.Ordering.TheVariants.{Less, Equal, Greater}
use Rattle.std.specs.Ordering.{is_gt, is_lt, ordering_then}
use Rattle.psm_num.specs.Num.{Num as Number}
use Rattle.psm_num.specs.Order.{order}
use Rattle.psm_value.specs.declared.datum.Datum.{Datum}
use Rattle.psm_value.specs.declared.datum.Datum.TheVariants.{Null, Num, Text}
use Rattle.psm_table.specs.declared.map.Pair.{Pair}
use Rattle.psm_table.specs.Cuts.{is_past}
use Rattle.psm_table.specs.Key.{key_order}
use Rattle.psm_table.specs.Leading.{both_lead, known_order, leading_of, leading_order, number_at}
use Rattle.psm_table.specs.Map.{prefix_order}
use Rattle.psm_table.specs.Runs.{begins, head_of}

-- a key has no number after its end
pub number_past : (key : List Datum) (i : ℕ) → length key ≤ i → None ≡ number_at key i
number_past [] i l = refl
number_past (v ∷ vs) zero l = absurd (omega arith)
number_past (v ∷ vs) (suc i) l = number_past vs i (omega arith)

-- ---- what numbers decide of an order

-- where one order isn't equal, the other is the same
abbrev Decides : Ordering → Ordering → Type 0
Decides o p = (Less ≡ o → Less ≡ p) × (Greater ≡ o → Greater ≡ p)

decides_nothing : (p : Ordering) → Decides Equal p
decides_nothing p = (λ e. cc, λ e. cc)

decides_first : (o p : Ordering) → Decides o (ordering_then o p)
decides_first Less p = (λ e. e, λ e. e)
decides_first Equal p = decides_nothing p
decides_first Greater p = (λ e. e, λ e. e)

decides_then : (o p q : Ordering) → Decides p q → Decides (ordering_then o p) (ordering_then o q)
decides_then Less p q d = (λ e. e, λ e. e)
decides_then Equal p q d = d
decides_then Greater p q d = (λ e. e, λ e. e)

known_decides : (key k : List Datum) → Decides (known_order (number_at key 0) (number_at k 0)) (key_order key k)
known_decides [] k = decides_nothing (key_order [] k)
known_decides (Null ∷ vs) k = decides_nothing (key_order (Null ∷ vs) k)
known_decides (Text t ∷ vs) k = decides_nothing (key_order (Text t ∷ vs) k)
known_decides (Num a ∷ vs) [] = decides_nothing (key_order (Num a ∷ vs) [])
known_decides (Num a ∷ vs) (Null ∷ ws) = decides_nothing (key_order (Num a ∷ vs) (Null ∷ ws))
known_decides (Num a ∷ vs) (Text t ∷ ws) = decides_nothing (key_order (Num a ∷ vs) (Text t ∷ ws))
known_decides (Num a ∷ vs) (Num b ∷ ws) = decides_first (order a b) (key_order vs ws)

leading_decides : (key k : List Datum) → Decides (leading_order (leading_of key) (leading_of k)) (key_order key k)
leading_decides [] k = decides_nothing (key_order [] k)
leading_decides (Null ∷ vs) k = decides_nothing (key_order (Null ∷ vs) k)
leading_decides (Text t ∷ vs) k = decides_nothing (key_order (Text t ∷ vs) k)
leading_decides (Num a ∷ vs) [] = decides_nothing (key_order (Num a ∷ vs) [])
leading_decides (Num a ∷ vs) (Null ∷ ws) = decides_nothing (key_order (Num a ∷ vs) (Null ∷ ws))
leading_decides (Num a ∷ vs) (Text t ∷ ws) = decides_nothing (key_order (Num a ∷ vs) (Text t ∷ ws))
leading_decides (Num a ∷ vs) (Num b ∷ ws) = decides_then (order a b) (known_order (number_at vs 0) (number_at ws 0)) (key_order vs ws) (known_decides vs ws)

known_prefix : (key k : List Datum) → Decides (known_order (number_at key 0) (number_at k 0)) (prefix_order k key)
known_prefix [] k = decides_nothing (prefix_order k [])
known_prefix (Null ∷ vs) k = decides_nothing (prefix_order k (Null ∷ vs))
known_prefix (Text t ∷ vs) k = decides_nothing (prefix_order k (Text t ∷ vs))
known_prefix (Num a ∷ vs) [] = decides_nothing (prefix_order [] (Num a ∷ vs))
known_prefix (Num a ∷ vs) (Null ∷ ws) = decides_nothing (prefix_order (Null ∷ ws) (Num a ∷ vs))
known_prefix (Num a ∷ vs) (Text t ∷ ws) = decides_nothing (prefix_order (Text t ∷ ws) (Num a ∷ vs))
known_prefix (Num a ∷ vs) (Num b ∷ ws) = decides_first (order a b) (prefix_order ws vs)

leading_prefix : (key k : List Datum) → Decides (leading_order (leading_of key) (leading_of k)) (prefix_order k key)
leading_prefix [] k = decides_nothing (prefix_order k [])
leading_prefix (Null ∷ vs) k = decides_nothing (prefix_order k (Null ∷ vs))
leading_prefix (Text t ∷ vs) k = decides_nothing (prefix_order k (Text t ∷ vs))
leading_prefix (Num a ∷ vs) [] = decides_nothing (prefix_order [] (Num a ∷ vs))
leading_prefix (Num a ∷ vs) (Null ∷ ws) = decides_nothing (prefix_order (Null ∷ ws) (Num a ∷ vs))
leading_prefix (Num a ∷ vs) (Text t ∷ ws) = decides_nothing (prefix_order (Text t ∷ ws) (Num a ∷ vs))
leading_prefix (Num a ∷ vs) (Num b ∷ ws) = decides_then (order a b) (known_order (number_at vs 0) (number_at ws 0)) (prefix_order ws vs) (known_prefix vs ws)

-- equal numbers decide where nothing follows the one that is looked for
known_nothing : (a : Option Number) → Equal ≡ known_order a None
known_nothing None = refl
known_nothing (Some a) = refl

leading_alone : (key k : List Datum) → length k ≡ 1 → both_lead (leading_of key) (leading_of k) ≡ true → Equal ≡ leading_order (leading_of key) (leading_of k) → Equal ≡ prefix_order k key
leading_alone key [] n t e = absurd (omega (arith, n))
leading_alone key (v ∷ w ∷ ws) n t e = absurd (omega (arith, n))
leading_alone [] (v ∷ []) n t e = cc
leading_alone (Null ∷ vs) (v ∷ []) n t e = cc
leading_alone (Text s ∷ vs) (v ∷ []) n t e = cc
leading_alone (Num a ∷ vs) (Null ∷ []) n t e = cc
leading_alone (Num a ∷ vs) (Text s ∷ []) n t e = cc
leading_alone (Num a ∷ vs) (Num b ∷ []) n t e = e ∙ sym (ap (ordering_then (order a b)) (known_nothing (number_at vs 0)))

past_less : (k : List Datum) (is_after : Bool) (key : List Datum) → Less ≡ prefix_order k key → false ≡ is_past k is_after key
past_less k true key e = ap is_gt e
past_less k false key e = ap (λ o. not (is_lt o)) e

past_greater : (k : List Datum) (is_after : Bool) (key : List Datum) → Greater ≡ prefix_order k key → true ≡ is_past k is_after key
past_greater k true key e = ap is_gt e
past_greater k false key e = ap (λ o. not (is_lt o)) e

past_equal : (k : List Datum) (is_after : Bool) (key : List Datum) → Equal ≡ prefix_order k key → not is_after ≡ is_past k is_after key
past_equal k true key e = ap is_gt e
past_equal k false key e = ap (λ o. not (is_lt o)) e

module _ {V : Type 0} where
  -- the numbers with which the first pair's key and another key begin decide where they differ
  pub head_less : (pairs : List (Pair V)) (k : List Datum) → Less ≡ leading_order (head_of pairs) (leading_of k) → false ≡ begins (λ p. is_gt (key_order p.key k)) pairs
  head_less [] k l = refl
  head_less (p ∷ ps) k l = ap is_gt ((leading_decides p.key k).0 l)

  pub head_greater : (pairs : List (Pair V)) (k : List Datum) → Greater ≡ leading_order (head_of pairs) (leading_of k) → true ≡ begins (λ p. is_gt (key_order p.key k)) pairs
  head_greater [] k l = cc
  head_greater (p ∷ ps) k l = ap is_gt ((leading_decides p.key k).1 l)

  -- the same of a cut, and equal numbers decide where there is no other value
  pub head_short : (pairs : List (Pair V)) (k : List Datum) (is_after : Bool) → Less ≡ leading_order (head_of pairs) (leading_of k) → false ≡ begins (λ p. is_past k is_after p.key) pairs
  head_short [] k is_after l = refl
  head_short (p ∷ ps) k is_after l = past_less k is_after p.key ((leading_prefix p.key k).0 l)

  pub head_past : (pairs : List (Pair V)) (k : List Datum) (is_after : Bool) → Greater ≡ leading_order (head_of pairs) (leading_of k) → true ≡ begins (λ p. is_past k is_after p.key) pairs
  head_past [] k is_after l = cc
  head_past (p ∷ ps) k is_after l = past_greater k is_after p.key ((leading_prefix p.key k).1 l)

  pub head_alone : (pairs : List (Pair V)) (k : List Datum) (is_after : Bool) → Equal ≡ leading_order (head_of pairs) (leading_of k) → both_lead (head_of pairs) (leading_of k) ≡ true → length k ≡ 1 → not is_after ≡ begins (λ p. is_past k is_after p.key) pairs
  head_alone [] k is_after l t n = cc
  head_alone (p ∷ ps) k is_after l t n = past_equal k is_after p.key (leading_alone p.key k n t l)

  -- a pair is put in at an index
  pub head-insert : (pairs : List (Pair V)) (i : ℕ) (p : Pair V) → i ≤ length pairs → head_of (insert pairs i p) ≡ (if nat_eq i 0 then leading_of p.key else head_of pairs)
  head-insert pairs zero p l = refl
  head-insert [] (suc i) p l = absurd (omega arith)
  head-insert (x ∷ pairs) (suc i) p l = let e : nat_eq (suc i) 0 ≡ false = eqb-suc-zero i in rw e refl

  -- a pair is written over another
  pub head-write : (pairs : List (Pair V)) (i : ℕ) (p : Pair V) → i < length pairs → head_of (set pairs i p) ≡ (if nat_eq i 0 then leading_of p.key else head_of pairs)
  head-write [] i p l = absurd (omega arith)
  head-write (x ∷ pairs) zero p l = refl
  head-write (x ∷ pairs) (suc i) p l = let e : nat_eq (suc i) 0 ≡ false = eqb-suc-zero i in rw e refl

  pub head-append : (xs ys : List (Pair V)) → 0 < length xs → head_of (xs ++ ys) ≡ head_of xs
  head-append [] ys l = absurd (omega arith)
  head-append (x ∷ xs) ys l = refl
