-- Walks over pairs in ascending order of their keys, from one pair to the next.
use Rattle.std.proofs.Common.{◌≡◌, suc, ◌-◌, ◌<◌, List, [], ◌∷◌, length, get_or, Bool, true, false, not, refl, ap, sym, subst, ◌∙◌, arith}
use Rattle.std.specs.Prelude.{All, cond, filter, slice_get}
use Rattle.std.proofs.lemmas.List.Elements.{All-head, All-filter}
use Rattle.std.specs.declared.cmp.Ordering.{Ordering}
use Rattle.std.specs.declared.cmp.Ordering.TheVariants.{Less, Equal, Greater}
use Rattle.std.specs.Ordering.{is_lt, is_gt}
use Rattle.psm_value.specs.declared.datum.Datum.{Datum}
use Rattle.psm_table.specs.declared.map.Pair.{Pair}
use Rattle.psm_table.specs.Cuts.{is_past}
use Rattle.psm_table.specs.Key.{key_order}
use Rattle.psm_table.specs.Map.{AreAscending, pairs_above, prefix_order}
use Rattle.psm_table.specs.PairPosition.{ahead}
use Rattle.psm_table.specs.Rows.{last_of}
use Rattle.psm_table.proofs.KeyLaws.{key_order-refl}
use Rattle.psm_table.proofs.Filters.{filter-whole, greater_is, AllPairs-first, AllPairs-rest}
use Rattle.psm_table.proofs.Searches.{turned_greater, greater_after_greater}
use Rattle.psm_table.proofs.Prefixes.{prefix-greater, prefix-less}
use Rattle.psm_table.proofs.Pairs.{Rises}

pub last-cons : {X : Type 0} (x y : X) (xs : List X) → last_of (x ∷ y ∷ xs) ≡ last_of (y ∷ xs)
last-cons x y xs =
    let a : length (x ∷ y ∷ xs) - 1 ≡ suc (length xs) = omega arith in
    let b : length (y ∷ xs) - 1 ≡ length xs = omega arith in
    ap (slice_get (x ∷ y ∷ xs)) a ∙ sym (ap (slice_get (y ∷ xs)) b)

not_less_from : (o r : Ordering) → (o ≡ Less → r ≡ Less) → not (is_lt r) ≡ true → not (is_lt o) ≡ true
not_less_from Less r h f = absurd (let g : not (is_lt Less) ≡ true = ap (λ x. not (is_lt x)) (sym (h refl)) ∙ f in cc)
not_less_from Equal r h f = refl
not_less_from Greater r h f = refl

module _ {V : Type 0} where
  -- the pairs above the first are the others
  pub above_first : (p : Pair V) (ps : List (Pair V)) → AreAscending (p ∷ ps) → pairs_above p.key (p ∷ ps) ≡ ps
  above_first p ps up =
      let self : key_order p.key p.key ≡ Equal = key_order-refl p.key in
      let t = filter-whole (λ (q : Pair V). is_gt (key_order q.key p.key)) ps (λ k d l. ap is_gt (turned_greater (get_or ps k d).key p.key (AllPairs-first Rises p ps up k d l))) in
      rw self t

  above_later : (p x : Pair V) (ps : List (Pair V)) → key_order p.key x.key ≡ Less → pairs_above x.key (p ∷ ps) ≡ pairs_above x.key ps
  above_later p x ps e = rw e refl

  -- with a pair each greater one passes
  abbrev pub Up : (Pair V → Bool) → Type 0
  Up t = (p q : Pair V) → Rises p q → t p ≡ true → t q ≡ true

  module _ (t : Pair V → Bool) where
    -- the first of the pairs that pass: those above it are the others
    up_first : (p : Pair V) (ps : List (Pair V)) (x : Pair V) (r : List (Pair V)) (b : Bool) → Up t → AreAscending (p ∷ ps) → t p ≡ b
        → (filter t ps ≡ x ∷ r → pairs_above x.key ps ≡ r) → cond b (p ∷ filter t ps) (filter t ps) ≡ x ∷ r → pairs_above x.key (p ∷ ps) ≡ r
    up_first p ps x r true closed up e h f =
        let whole : filter t ps ≡ ps = filter-whole t ps (λ k d l. closed p (get_or ps k d) (AllPairs-first Rises p ps up k d l) e) in
        let same : p ≡ x = cc in
        let rest : filter t ps ≡ r = cc in
        subst (λ z. pairs_above z.key (p ∷ ps) ≡ r) same (above_first p ps up ∙ sym whole ∙ rest)
    up_first p ps x r false closed up e h f =
        let later : All (λ q. Rises p q) (x ∷ r) = subst (All (λ q. Rises p q)) f (All-filter t (λ q. Rises p q) ps (AllPairs-first Rises p ps up)) in
        above_later p x ps (All-head (λ q. Rises p q) x r later) ∙ h f

    pub up_step : (pairs : List (Pair V)) (x : Pair V) (r : List (Pair V)) → Up t → AreAscending pairs → filter t pairs ≡ x ∷ r → pairs_above x.key pairs ≡ r
    up_step [] x r closed up e = cc
    up_step (p ∷ ps) x r closed up e = up_first p ps x r (t p) closed up refl (up_step ps x r closed (AllPairs-rest Rises p ps up)) e

    ahead-list : (pairs l : List (Pair V)) → Up t → AreAscending pairs → filter t pairs ≡ l → ahead pairs (slice_get l 0) ≡ l
    ahead-list pairs [] closed up e = refl
    ahead-list pairs (x ∷ r) closed up e = ap (λ rest. x ∷ rest) (up_step pairs x r closed up e)

    -- the first pair that passes and those after it are all that pass
    pub ahead-filter : (pairs : List (Pair V)) → Up t → AreAscending pairs → ahead pairs (slice_get (filter t pairs) 0) ≡ filter t pairs
    ahead-filter pairs closed up = ahead-list pairs (filter t pairs) closed up refl

  pub ahead-all : (pairs : List (Pair V)) → AreAscending pairs → ahead pairs (slice_get pairs 0) ≡ pairs
  ahead-all [] up = refl
  ahead-all (p ∷ ps) up = ap (λ rest. p ∷ rest) (above_first p ps up)

  -- the pairs above a key, and those from values on
  pub up-above : (key : List Datum) → Up (λ p. is_gt (key_order p.key key))
  up-above key p q r e = ap is_gt (greater_after_greater p.key q.key key r (greater_is (key_order p.key key) e))

  pub up-from : (values : List Datum) → Up (λ p. not (is_lt (prefix_order values p.key)))
  up-from values p q r e = not_less_from (prefix_order values q.key) (prefix_order values p.key) (λ l. prefix-less values p.key q.key r l) e

  pub up-past : (values : List Datum) (is_after : Bool) → Up (λ p. is_past values is_after p.key)
  up-past values true p q r e = ap is_gt (prefix-greater values p.key q.key r (greater_is (prefix_order values p.key) e))
  up-past values false p q r e = up-from values p q r e

pub next_less : {X : Type 0} (xs ys : List X) (x : X) → xs ≡ ys → length xs < length (x ∷ ys)
next_less xs ys x e = omega (arith, ap length e)
