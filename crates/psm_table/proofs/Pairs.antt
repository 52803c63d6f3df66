-- Pairs in ascending order of their keys: one that is found, put in or exchanged.
use Rattle.std.proofs.Common.{◌≡◌, ℕ, zero, suc, ◌<◌, add-one, List, [], ◌∷◌, ◌++◌, length, get_or, set, drop, Bool, true, false, refl, ap, sym, ◌∙◌, arith, Some, None}
use Rattle.std.specs.Prelude.{All, option_map, insert, if◌then◌else◌}
use Rattle.std.proofs.lemmas.List.Elements.{All-cons, All-tail, All-head}
use Rattle.std.proofs.lemmas.List.Kept.{AllPairs-filter, AllPairs-cons}
use Rattle.std.proofs.lemmas.List.{get_or-map, length-map, set_split}
use Rattle.std.proofs.lemmas.Option.{slice_get-get_or}
use Rattle.std.specs.declared.cmp.Ordering.TheVariants.{Less, Equal, Greater}
use Rattle.std.specs.Ordering.{is_lt, is_gt, is_eq, ordering_reverse}
use Rattle.psm_value.specs.declared.datum.Datum.{Datum}
use Rattle.psm_table.specs.declared.map.Pair.{Pair}
use Rattle.psm_table.specs.Key.{key_order}
use Rattle.psm_table.specs.Map.{AreAscending, exchanged, keys_of, pair_with, pairs_above, pairs_below, value_of, with_pair, with_value}
use Rattle.psm_table.specs.PairPosition.{IsAt, IsGap}
use Rattle.psm_table.proofs.KeyLaws.{key_order-total}
use Rattle.psm_table.proofs.Filters.{filtered, find_passes, AllPairs-first, AllPairs-rest, AllPairs-append, less_is, equal_is, greater_is}
use Rattle.psm_table.proofs.Searches.{less_before_equal, greater_after_equal, greater_after_greater}

module _ {V : Type 0} where
  abbrev pub Rises : Pair V → Pair V → Type 0
  Rises a b = key_order a.key b.key ≡ Less

  pub value_found : (key : List Datum) (pairs : List (Pair V)) (i : ℕ) (x : Pair V) → IsAt key pairs i → x ≡ get_or pairs i x → value_of key pairs ≡ Some x.value
  value_found key pairs i x at e = ap (option_map (λ (p : Pair V). p.value)) (at.has ∙ slice_get-get_or pairs i x at.inside ∙ ap Some (sym e))

  -- the pairs after one that isn't less than the key are greater than it
  pub after_equal : (key : List Datum) (p : Pair V) (ps : List (Pair V)) → AreAscending (p ∷ ps) → key_order p.key key ≡ Equal → All (λ q. key_order q.key key ≡ Greater) ps
  after_equal key p ps up e k d l = greater_after_equal p.key (get_or ps k d).key key (AllPairs-first Rises p ps up k d l) e

  pub after_greater : (key : List Datum) (p : Pair V) (ps : List (Pair V)) → AreAscending (p ∷ ps) → key_order p.key key ≡ Greater → All (λ q. key_order q.key key ≡ Greater) ps
  after_greater key p ps up e k d l = greater_after_greater p.key (get_or ps k d).key key (AllPairs-first Rises p ps up k d l) e

  pub with_value-greater : (key : List Datum) (v : V) (ps : List (Pair V)) → All (λ q. key_order q.key key ≡ Greater) ps → with_value key v ps ≡ ps
  with_value-greater key v [] h = refl
  with_value-greater key v (p ∷ ps) h =
      let e : key_order p.key key ≡ Greater = All-head (λ (q : Pair V). key_order q.key key ≡ Greater) p ps h in
      let t = with_value-greater key v ps (All-tail (λ (q : Pair V). key_order q.key key ≡ Greater) p ps h) in
      rw e (ap (λ rest. p ∷ rest) t)

  set-with_value : (key : List Datum) (v : V) (pairs : List (Pair V)) (i : ℕ) (d : Pair V) → AreAscending pairs → i < length pairs → key_order (get_or pairs i d).key key ≡ Equal
      → set pairs i (record { key = (get_or pairs i d).key; value = v }) ≡ with_value key v pairs
  set-with_value key v [] i d up l e = absurd (omega arith)
  set-with_value key v (p ∷ ps) zero d up l e =
      let t = with_value-greater key v ps (after_equal key p ps up e) in
      rw e (ap (λ rest. record { key = p.key; value = v } ∷ rest) (sym t))
  set-with_value key v (p ∷ ps) (suc i) d up l e =
      let less : key_order p.key key ≡ Less = less_before_equal p.key (get_or ps i d).key key (AllPairs-first Rises p ps up i d (omega arith)) e in
      let t = set-with_value key v ps i d (AllPairs-rest Rises p ps up) (omega arith) e in
      rw less (ap (λ rest. p ∷ rest) t)

  -- the pair that was found has the key
  pub found_equal : (key : List Datum) (pairs : List (Pair V)) (i : ℕ) (x : Pair V) → IsAt key pairs i → x ≡ get_or pairs i x → key_order x.key key ≡ Equal
  found_equal key pairs i x at e =
      equal_is (key_order x.key key) (find_passes (λ (p : Pair V). is_eq (key_order p.key key)) pairs x (at.has ∙ slice_get-get_or pairs i x at.inside ∙ ap Some (sym e)))

  -- a value that is written over that of the pair with the key
  pub replaced : (key : List Datum) (v : V) (pairs : List (Pair V)) (i : ℕ) (x : Pair V) → AreAscending pairs → IsAt key pairs i → x ≡ get_or pairs i x
      → set pairs i (record { key = x.key; value = v }) ≡ with_value key v pairs
  replaced key v pairs i x up at e =
      let same : key_order (get_or pairs i x).key key ≡ Equal = ap (λ (p : Pair V). key_order p.key key) (sym e) ∙ found_equal key pairs i x at e in
      ap (λ (p : Pair V). set pairs i (record { key = p.key; value = v })) e ∙ set-with_value key v pairs i x up at.inside same

  -- where no pair has the key, nothing is exchanged
  exchanged-absent : (key : List Datum) (v : V) (p : Pair V) → is_eq (key_order p.key key) ≡ false → exchanged key v p ≡ p
  exchanged-absent key v p e = rw e refl

  absent-first : (key : List Datum) (p : Pair V) (ps : List (Pair V)) (b : Bool) → is_eq (key_order p.key key) ≡ b → pair_with key (p ∷ ps) ≡ None → (b ≡ false) × (pair_with key ps ≡ None)
  absent-first key p ps true e f = absurd (let g : Some p ≡ None = rw e at f in cc)
  absent-first key p ps false e f = (refl, rw e at f)

  pub with_value-absent : (key : List Datum) (v : V) (pairs : List (Pair V)) → pair_with key pairs ≡ None → with_value key v pairs ≡ pairs
  with_value-absent key v [] e = refl
  with_value-absent key v (p ∷ ps) e =
      let t = absent-first key p ps (is_eq (key_order p.key key)) refl e in
      ap (λ q. q ∷ with_value key v ps) (exchanged-absent key v p t.0) ∙ ap (λ rest. p ∷ rest) (with_value-absent key v ps t.1)

  -- no key is exchanged
  key-exchanged : (key : List Datum) (v : V) (p : Pair V) (b : Bool) → (if b then record { key = p.key; value = v } else p).key ≡ p.key
  key-exchanged key v p true = refl
  key-exchanged key v p false = refl

  pub keys-with_value : (key : List Datum) (v : V) (pairs : List (Pair V)) → keys_of (with_value key v pairs) ≡ keys_of pairs
  keys-with_value key v [] = refl
  keys-with_value key v (p ∷ ps) =
      ap (λ k. k ∷ keys_of (with_value key v ps)) (key-exchanged key v p (is_eq (key_order p.key key))) ∙ ap (λ rest. p.key ∷ rest) (keys-with_value key v ps)

  -- the order is that of the keys
  pub ascending-keys : (a b : List (Pair V)) → keys_of a ≡ keys_of b → AreAscending a → AreAscending b
  ascending-keys a b e up i j d l m =
      let long : length a ≡ length b = sym (length-map a (λ (p : Pair V). p.key)) ∙ ap length e ∙ length-map b (λ (p : Pair V). p.key) in
      let at : (k : ℕ) → k < length b → (get_or a k d).key ≡ (get_or b k d).key = λ k n.
      sym (get_or-map (λ (p : Pair V). p.key) a k d d.key (omega (arith, n, long))) ∙ ap (λ ks. get_or ks k d.key) e ∙ get_or-map (λ (p : Pair V). p.key) b k d d.key n in
      sym (ap (λ k. key_order k (get_or b j d).key) (at i (omega (arith, l, m))))
      ∙ sym (ap (λ k. key_order (get_or a i d).key k) (at j m))
      ∙ up i j d l (omega (arith, m, long))

  -- a pair that is inserted in its gap is put in
  pub inserted : (p : Pair V) (pairs : List (Pair V)) (i : ℕ) → IsGap p.key pairs i → insert pairs i p ≡ with_pair p pairs
  inserted p pairs i g = ap (λ a. a ++ p ∷ drop i pairs) g.before ∙ ap (λ b. pairs_below p.key pairs ++ p ∷ b) g.after

  -- a pair that is written over that of its key
  pub overwritten : (p : Pair V) (pairs : List (Pair V)) (i : ℕ) → IsAt p.key pairs i → set pairs i p ≡ with_pair p pairs
  overwritten p pairs i at = set_split pairs i p at.inside ∙ ap (λ a. a ++ p ∷ drop (suc i) pairs) at.before ∙ ap (λ b. pairs_below p.key pairs ++ p ∷ b) (rw add-one at at.after)

  below : (key : List Datum) (pairs : List (Pair V)) → All (λ q. key_order q.key key ≡ Less) (pairs_below key pairs)
  below key pairs = filtered (λ (q : Pair V). is_lt (key_order q.key key)) (λ q. key_order q.key key ≡ Less) (λ q e. less_is (key_order q.key key) e) pairs

  above : (key : List Datum) (pairs : List (Pair V)) → All (λ q. key_order key q.key ≡ Less) (pairs_above key pairs)
  above key pairs = filtered (λ (q : Pair V). is_gt (key_order q.key key)) (λ q. key_order key q.key ≡ Less)
      (λ q e. key_order-total.antisymm key q.key ∙ ap ordering_reverse (greater_is (key_order q.key key) e)) pairs

  pub ascending-with_pair : (p : Pair V) (pairs : List (Pair V)) → AreAscending pairs → AreAscending (with_pair p pairs)
  ascending-with_pair p pairs up =
      let low = pairs_below p.key pairs in
      let high = pairs_above p.key pairs in
      AllPairs-append Rises low (p ∷ high) (AllPairs-filter Rises (λ (q : Pair V). is_lt (key_order q.key p.key)) pairs up)
      (AllPairs-cons Rises p high (above p.key pairs) (AllPairs-filter Rises (λ (q : Pair V). is_gt (key_order q.key p.key)) pairs up))
      (λ k d l. All-cons (Rises (get_or low k d)) p high (below p.key pairs k d l)
      (λ k' d' l'. key_order-total.trans (get_or low k d).key p.key (get_or high k' d').key (below p.key pairs k d l) (above p.key pairs k' d' l')))
