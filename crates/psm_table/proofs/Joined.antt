-- Pairs in runs: a run between those before it and those after it.
use Rattle.std.proofs.Common.{◌≡◌, ℕ, zero, suc, ◌+◌, ◌<◌, ◌≤◌, List, [], ◌∷◌, ◌++◌, length, get_or, set, take, drop, Bool, true, false, not, refl, ap, sym, subst, ◌∙◌, add-one, arith, inl, inr, Some, None}
use Rattle.std.specs.Prelude.{All, cond, filter, insert, option_map, slice_get}
use Rattle.std.proofs.lemmas.Bool.{cases_eq}
use Rattle.std.proofs.lemmas.List.Elements.{All-nil, All-cons, All-append, All-drop, All-tail, All-take, All-head, filter-append}
use Rattle.std.proofs.lemmas.List.{append-nil, append_assoc, get_or_default, length-map, length-set}
use Rattle.std.proofs.lemmas.List.Kept.{AllPairs-cons}
use Rattle.std.specs.declared.cmp.Ordering.TheVariants.{Less, Greater}
use Rattle.std.specs.Ordering.{is_lt, is_gt, is_eq}
use Rattle.psm_value.specs.declared.datum.Datum.{Datum}
use Rattle.psm_table.specs.declared.map.Pair.{Pair}
use Rattle.psm_table.specs.declared.map.Position.{Position}
use Rattle.psm_table.specs.PairPosition.{IsAt, StandsAt}
use Rattle.psm_table.specs.Runs.{joined, AreRunsBut, IsIn, IsRun, IsTurn}
use Rattle.psm_table.specs.Key.{key_order}
use Rattle.psm_table.specs.Map.{AreAscending, exchanged, pair_with, pairs_above, pairs_below, value_of, with_pair, with_value}
use Rattle.psm_table.proofs.Filters.{filter-empty, filter-whole, AllPairs-first, AllPairs-rest}
use Rattle.psm_table.proofs.Entered.{get-set, get-set_other, take-get, take-less}
use Rattle.psm_table.proofs.Pairs.{Rises, ascending-keys, keys-with_value, with_value-greater}

pub drop-past : {X : Type 0} (xs : List X) (i : ℕ) → length xs ≤ i → drop i xs ≡ []
drop-past [] zero l = refl
drop-past [] (suc i) l = refl
drop-past (x ∷ xs) zero l = absurd (omega arith)
drop-past (x ∷ xs) (suc i) l = drop-past xs i (omega arith)

module _ {V : Type 0} where
  -- a run, with the pairs before it and after it
  pub joined-split : (cs : List (List (Pair V))) (i : ℕ) (d : List (Pair V)) → i < length cs
      → joined cs ≡ joined (take i cs) ++ (get_or cs i d ++ joined (drop (suc i) cs))
  joined-split [] i d l = absurd (omega arith)
  joined-split (c ∷ cs) zero d l = refl
  joined-split (c ∷ cs) (suc i) d l = ap (λ r. c ++ r) (joined-split cs i d (omega arith)) ∙ sym (append_assoc c (joined (take i cs)) (get_or cs i d ++ joined (drop (suc i) cs)))

  pub joined-set : (cs : List (List (Pair V))) (i : ℕ) (c : List (Pair V)) → i < length cs
      → joined (set cs i c) ≡ joined (take i cs) ++ (c ++ joined (drop (suc i) cs))
  joined-set [] i c l = absurd (omega arith)
  joined-set (x ∷ cs) zero c l = refl
  joined-set (x ∷ cs) (suc i) c l = ap (λ r. x ++ r) (joined-set cs i c (omega arith)) ∙ sym (append_assoc x (joined (take i cs)) (c ++ joined (drop (suc i) cs)))

  pub joined-parts : (cs : List (List (Pair V))) (i : ℕ) → joined cs ≡ joined (take i cs) ++ joined (drop i cs)
  joined-parts [] zero = refl
  joined-parts [] (suc i) = refl
  joined-parts (c ∷ cs) zero = refl
  joined-parts (c ∷ cs) (suc i) = ap (λ r. c ++ r) (joined-parts cs i) ∙ sym (append_assoc c (joined (take i cs)) (joined (drop i cs)))

  pub all-first : (P : Pair V → Type 0) (xs ys : List (Pair V)) → All P (xs ++ ys) → All P xs
  all-first P [] ys h = All-nil P
  all-first P (x ∷ xs) ys h = All-cons P x xs (All-head P x (xs ++ ys) h) (all-first P xs ys (All-tail P x (xs ++ ys) h))

  pub all-second : (P : Pair V → Type 0) (xs ys : List (Pair V)) → All P (xs ++ ys) → All P ys
  all-second P [] ys h = h
  all-second P (x ∷ xs) ys h = all-second P xs ys (All-tail P x (xs ++ ys) h)

  -- parts of an ascending list ascend, and each pair of the first is less than each of the second
  pub ascending-first : (xs ys : List (Pair V)) → AreAscending (xs ++ ys) → AreAscending xs
  ascending-first [] ys up = λ i j d l m. absurd (omega arith)
  ascending-first (x ∷ xs) ys up =
      AllPairs-cons Rises x xs (all-first (Rises x) xs ys (AllPairs-first Rises x (xs ++ ys) up)) (ascending-first xs ys (AllPairs-rest Rises x (xs ++ ys) up))

  pub ascending-second : (xs ys : List (Pair V)) → AreAscending (xs ++ ys) → AreAscending ys
  ascending-second [] ys up = up
  ascending-second (x ∷ xs) ys up = ascending-second xs ys (AllPairs-rest Rises x (xs ++ ys) up)

  pub across : (xs ys : List (Pair V)) → AreAscending (xs ++ ys) → All (λ x. All (Rises x) ys) xs
  across [] ys up = All-nil (λ x. All (Rises x) ys)
  across (x ∷ xs) ys up =
      All-cons (λ z. All (Rises z) ys) x xs (all-second (Rises x) xs ys (AllPairs-first Rises x (xs ++ ys) up)) (across xs ys (AllPairs-rest Rises x (xs ++ ys) up))

  module _ (key : List Datum) where
    abbrev pub Lows : List (Pair V) → Type 0
    Lows xs = All (λ p. key_order p.key key ≡ Less) xs

    abbrev pub Highs : List (Pair V) → Type 0
    Highs xs = All (λ p. key_order p.key key ≡ Greater) xs

    -- c stands between pairs that are less than the key and pairs that are greater
    module _ (a c b : List (Pair V)) (low : Lows a) (high : Highs b) where
      pub below-lift : pairs_below key (a ++ (c ++ b)) ≡ a ++ pairs_below key c
      below-lift =
          filter-append (λ p. is_lt (key_order p.key key)) a (c ++ b)
          ∙ ap (λ l. l ++ pairs_below key (c ++ b)) (filter-whole (λ p. is_lt (key_order p.key key)) a (λ k d l. ap is_lt (low k d l)))
          ∙ ap (λ l. a ++ l) (filter-append (λ p. is_lt (key_order p.key key)) c b
          ∙ ap (λ l. pairs_below key c ++ l) (filter-empty (λ p. is_lt (key_order p.key key)) b (λ k d l. ap is_lt (high k d l)))
          ∙ append-nil (pairs_below key c))

      pub above-lift : pairs_above key (a ++ (c ++ b)) ≡ pairs_above key c ++ b
      above-lift =
          filter-append (λ p. is_gt (key_order p.key key)) a (c ++ b)
          ∙ ap (λ l. l ++ pairs_above key (c ++ b)) (filter-empty (λ p. is_gt (key_order p.key key)) a (λ k d l. ap is_gt (low k d l)))
          ∙ filter-append (λ p. is_gt (key_order p.key key)) c b
          ∙ ap (λ l. pairs_above key c ++ l) (filter-whole (λ p. is_gt (key_order p.key key)) b (λ k d l. ap is_gt (high k d l)))

    find-skip : (a xs : List (Pair V)) → Lows a → pair_with key (a ++ xs) ≡ pair_with key xs
    find-skip [] xs low = refl
    find-skip (p ∷ a) xs low =
        let e : key_order p.key key ≡ Less = All-head (λ q. key_order q.key key ≡ Less) p a low in
        let t = find-skip a xs (All-tail (λ q. key_order q.key key ≡ Less) p a low) in
        rw e t

    find-none : (b : List (Pair V)) → Highs b → pair_with key b ≡ None
    find-none [] high = refl
    find-none (p ∷ b) high =
        let e : key_order p.key key ≡ Greater = All-head (λ q. key_order q.key key ≡ Greater) p b high in
        let t = find-none b (All-tail (λ q. key_order q.key key ≡ Greater) p b high) in
        rw e t

    find-first : (c b : List (Pair V)) → Highs b → pair_with key (c ++ b) ≡ pair_with key c
    find-first [] b high = find-none b high
    find-first (p ∷ c) b high = ap (λ o. cond (is_eq (key_order p.key key)) (Some p) o) (find-first c b high)

    pub find-lift : (a c b : List (Pair V)) → Lows a → Highs b → pair_with key (a ++ (c ++ b)) ≡ pair_with key c
    find-lift a c b low high = find-skip a (c ++ b) low ∙ find-first c b high

    with_value-append : (v : V) (xs ys : List (Pair V)) → with_value key v (xs ++ ys) ≡ with_value key v xs ++ with_value key v ys
    with_value-append v [] ys = refl
    with_value-append v (x ∷ xs) ys = ap (λ l. exchanged key v x ∷ l) (with_value-append v xs ys)

    with_value-less : (v : V) (xs : List (Pair V)) → Lows xs → with_value key v xs ≡ xs
    with_value-less v [] low = refl
    with_value-less v (p ∷ xs) low =
        let e : key_order p.key key ≡ Less = All-head (λ q. key_order q.key key ≡ Less) p xs low in
        let t = with_value-less v xs (All-tail (λ q. key_order q.key key ≡ Less) p xs low) in
        rw e (ap (λ rest. p ∷ rest) t)

    pub with_value-lift : (v : V) (a c b : List (Pair V)) → Lows a → Highs b → with_value key v (a ++ (c ++ b)) ≡ a ++ (with_value key v c ++ b)
    with_value-lift v a c b low high =
        with_value-append v a (c ++ b) ∙ ap (λ l. l ++ with_value key v (c ++ b)) (with_value-less v a low)
        ∙ ap (λ l. a ++ l) (with_value-append v c b ∙ ap (λ l. with_value key v c ++ l) (with_value-greater key v b high))

  pub with_pair-lift : (p : Pair V) (a c b : List (Pair V)) → Lows p.key a → Highs p.key b → with_pair p (a ++ (c ++ b)) ≡ a ++ (with_pair p c ++ b)
  with_pair-lift p a c b low high =
      ap (λ l. l ++ p ∷ pairs_above p.key (a ++ (c ++ b))) (below-lift p.key a c b low high)
      ∙ ap (λ l. (a ++ pairs_below p.key c) ++ p ∷ l) (above-lift p.key a c b low high)
      ∙ append_assoc a (pairs_below p.key c) (p ∷ (pairs_above p.key c ++ b))
      ∙ ap (λ l. a ++ l) (sym (append_assoc (pairs_below p.key c) (p ∷ pairs_above p.key c) b))

  -- the run that a key belongs to
  module _ (key : List Datum) (cs : List (List (Pair V))) (i : ℕ) (d : List (Pair V)) (h : IsIn key cs i) where
    abbrev pub before : List (Pair V)
    before = joined (take i cs)

    abbrev pub after : List (Pair V)
    after = joined (drop (suc i) cs)

    pub its : joined cs ≡ before ++ (get_or cs i d ++ after)
    its = joined-split cs i d h.inside

    pub later : Highs key after
    later = rw add-one at h.high

    pub value-in : value_of key (joined cs) ≡ value_of key (get_or cs i d)
    value-in = ap (value_of key) its ∙ ap (option_map (λ (p : Pair V). p.value)) (find-lift key before (get_or cs i d) after h.low later)

    pub above-in : pairs_above key (joined cs) ≡ pairs_above key (get_or cs i d) ++ after
    above-in = ap (pairs_above key) its ∙ above-lift key before (get_or cs i d) after h.low later

    pub with_value-in : (v : V) → joined (set cs i (with_value key v (get_or cs i d))) ≡ with_value key v (joined cs)
    with_value-in v =
        joined-set cs i (with_value key v (get_or cs i d)) h.inside
        ∙ sym (with_value-lift key v before (get_or cs i d) after h.low later) ∙ ap (with_value key v) (sym its)

  pub with_pair-in : (p : Pair V) (cs : List (List (Pair V))) (i : ℕ) (d : List (Pair V)) → IsIn p.key cs i → joined (set cs i (with_pair p (get_or cs i d))) ≡ with_pair p (joined cs)
  with_pair-in p cs i d h =
      joined-set cs i (with_pair p (get_or cs i d)) h.inside
      ∙ sym (with_pair-lift p (joined (take i cs)) (get_or cs i d) (joined (drop (suc i) cs)) h.low (rw add-one at h.high))
      ∙ ap (with_pair p) (sym (joined-split cs i d h.inside))

  -- the run at index i and those after it
  pub joined-drop : (cs : List (List (Pair V))) (i : ℕ) (d : List (Pair V)) → i < length cs → joined (drop i cs) ≡ get_or cs i d ++ joined (drop (suc i) cs)
  joined-drop [] i d l = absurd (omega arith)
  joined-drop (c ∷ cs) zero d l = refl
  joined-drop (c ∷ cs) (suc i) d l = joined-drop cs i d (omega arith)

  -- the runs up to that at index i
  pub joined-take : (cs : List (List (Pair V))) (i : ℕ) (d : List (Pair V)) → i < length cs → joined (take (suc i) cs) ≡ joined (take i cs) ++ get_or cs i d
  joined-take [] i d l = absurd (omega arith)
  joined-take (c ∷ cs) zero d l = append-nil c
  joined-take (c ∷ cs) (suc i) d l = ap (λ r. c ++ r) (joined-take cs i d (omega arith)) ∙ sym (append_assoc c (joined (take i cs)) (get_or cs i d))

  -- a run that is cut in two
  pub joined-cut : (cs : List (List (Pair V))) (i : ℕ) (a b d : List (Pair V)) → i < length cs → get_or cs i d ≡ a ++ b → joined (insert (set cs i a) (suc i) b) ≡ joined cs
  joined-cut [] i a b d l e = absurd (omega arith)
  joined-cut (c ∷ cs) zero a b d l e = sym (append_assoc a b (joined cs)) ∙ ap (λ x. x ++ joined cs) (sym e)
  joined-cut (c ∷ cs) (suc i) a b d l e = ap (λ r. c ++ r) (joined-cut cs i a b d (omega arith) e)

-- the first of two lists together
pub first-append : {X : Type 0} (xs ys : List X) → 0 < length xs → slice_get (xs ++ ys) 0 ≡ slice_get xs 0
first-append [] ys l = absurd (omega arith)
first-append (x ∷ xs) ys l = refl

module _ {V : Type 0} (runs : List (List (Pair V))) where
  -- the first pair of the runs from one on
  pub first-joined : (i : ℕ) (r : List (Pair V)) → All IsRun runs → i < length runs → r ≡ get_or runs i r → slice_get r 0 ≡ slice_get (joined (drop i runs)) 0
  first-joined i r fit l e =
      ap (λ x. slice_get x 0) e ∙ sym (first-append (get_or runs i r) (joined (drop (suc i) runs)) (fit i r l).some) ∙ ap (λ x. slice_get x 0) (sym (joined-drop runs i r l))

  -- a run that was cut in two
  pub pairs_cut : (i : ℕ) (a b d : List (Pair V)) → i < length runs → d ≡ get_or runs i d → d ≡ a ++ b → joined (insert (set runs i a) (i + 1) b) ≡ joined runs
  pairs_cut i a b d l e f = rw add-one (joined-cut runs i a b d l (sym e ∙ f))

  set_fit : (i : ℕ) (a : List (Pair V)) → AreRunsBut i runs → IsRun a → i < length runs → All IsRun (set runs i a)
  set_fit i a others h l k d n = elim (cases_eq k i) [
    | inl same ↦ subst IsRun (sym (ap (λ j. get_or (set runs i a) j d) same ∙ get-set runs i a d l)) h
    | inr other ↦ subst IsRun (sym (get-set_other runs i k a d (λ e. other (sym e)))) (others k d (omega (arith, n, length-set runs i a)) other)
  ]

  pub runs_cut : (i : ℕ) (a b : List (Pair V)) → AreRunsBut i runs → IsRun a → IsRun b → i < length runs → All IsRun (insert (set runs i a) (i + 1) b)
  runs_cut i a b others h k l =
      let all = set_fit i a others h l in
      All-append IsRun (take (i + 1) (set runs i a)) (b ∷ drop (i + 1) (set runs i a)) (All-take IsRun (i + 1) (set runs i a) all)
      (All-cons IsRun b (drop (i + 1) (set runs i a)) k (All-drop IsRun (i + 1) (set runs i a) all))

  -- the run that was written over
  pub written : (i : ℕ) (a x : List (Pair V)) → i < length runs → x ≡ get_or (set runs i a) i x → x ≡ a
  written i a x l e = e ∙ get-set runs i a x l

shorter-first : {X : Type 0} (x : X) (f xs : List X) (b : Bool) → length f ≤ length xs → length (cond b (x ∷ f) f) ≤ suc (length xs)
shorter-first x f xs true l = omega (arith, l)
shorter-first x f xs false l = omega (arith, l)

filter-shorter : {X : Type 0} (t : X → Bool) (xs : List X) → length (filter t xs) ≤ length xs
filter-shorter t [] = omega arith
filter-shorter t (x ∷ xs) = shorter-first x (filter t xs) xs (t x) (filter-shorter t xs)

-- what is kept of a run is one, if it is anything
pub run_kept : {V : Type 0} (t : Pair V → Bool) (r was : List (Pair V)) → IsRun was → r ≡ filter t was → 0 < length r → IsRun r
run_kept t r was h e l = record { some = l; room = omega (arith, h.room, filter-shorter t was, ap length e) }

-- the first of two lists' elements, where the first has one and where it has none
first_there : {X : Type 0} (xs ys : List X) (x : X) → Some x ≡ slice_get xs 0 → Some x ≡ slice_get (xs ++ ys) 0
first_there [] ys x e = cc
first_there (y ∷ xs) ys x e = e

first_past : {X : Type 0} (xs ys : List X) → None ≡ slice_get xs 0 → slice_get ys 0 ≡ slice_get (xs ++ ys) 0
first_past [] ys e = refl
first_past (y ∷ xs) ys e = cc

-- the pair after a key, in the run that the key belongs to or in the next one
module _ {V : Type 0} (key : List Datum) (runs : List (List (Pair V))) (i : ℕ) (d : List (Pair V)) (h : IsIn key runs i) where
  pub after_there : (p : Pair V) → Some p ≡ slice_get (pairs_above key (get_or runs i d)) 0 → Some p ≡ slice_get (pairs_above key (joined runs)) 0
  after_there p e = first_there (pairs_above key (get_or runs i d)) (joined (drop (suc i) runs)) p e ∙ ap (λ l. slice_get l 0) (sym (above-in key runs i d h))

  pub after_past : None ≡ slice_get (pairs_above key (get_or runs i d)) 0 → slice_get (joined (drop (i + 1) runs)) 0 ≡ slice_get (pairs_above key (joined runs)) 0
  after_past e = rw add-one (first_past (pairs_above key (get_or runs i d)) (joined (drop (suc i) runs)) e ∙ ap (λ l. slice_get l 0) (sym (above-in key runs i d h)))

-- the first pair that passes, in the run in which they begin to, or in the next one
module _ {V : Type 0} (t : Pair V → Bool) (runs : List (List (Pair V))) (i : ℕ) (d : List (Pair V)) (h : IsTurn t runs i) where
  pub passed : filter t (joined runs) ≡ filter t (get_or runs i d) ++ joined (drop (suc i) runs)
  passed =
      let later : All (λ p. t p ≡ true) (joined (drop (suc i) runs)) = rw add-one at h.pass in
      ap (filter t) (joined-split runs i d h.inside)
      ∙ filter-append t (joined (take i runs)) (get_or runs i d ++ joined (drop (suc i) runs))
      ∙ ap (λ l. l ++ filter t (get_or runs i d ++ joined (drop (suc i) runs))) (filter-empty t (joined (take i runs)) h.fail)
      ∙ filter-append t (get_or runs i d) (joined (drop (suc i) runs))
      ∙ ap (λ l. filter t (get_or runs i d) ++ l) (filter-whole t (joined (drop (suc i) runs)) later)

  pub unpassed : filter (λ p. not (t p)) (joined runs) ≡ joined (take i runs) ++ filter (λ p. not (t p)) (get_or runs i d)
  unpassed =
      let later : All (λ p. not (t p) ≡ false) (joined (drop (suc i) runs)) = λ k e l. ap not ((rw add-one at h.pass) k e l) in
      ap (filter (λ p. not (t p))) (joined-split runs i d h.inside)
      ∙ filter-append (λ p. not (t p)) (joined (take i runs)) (get_or runs i d ++ joined (drop (suc i) runs))
      ∙ ap (λ l. l ++ filter (λ p. not (t p)) (get_or runs i d ++ joined (drop (suc i) runs)))
      (filter-whole (λ p. not (t p)) (joined (take i runs)) (λ k e l. ap not (h.fail k e l)))
      ∙ ap (λ l. joined (take i runs) ++ l) (filter-append (λ p. not (t p)) (get_or runs i d) (joined (drop (suc i) runs))
      ∙ ap (λ l. filter (λ p. not (t p)) (get_or runs i d) ++ l) (filter-empty (λ p. not (t p)) (joined (drop (suc i) runs)) later)
      ∙ append-nil (filter (λ p. not (t p)) (get_or runs i d)))

  pub from_there : (p : Pair V) → Some p ≡ slice_get (filter t (get_or runs i d)) 0 → Some p ≡ slice_get (filter t (joined runs)) 0
  from_there p e = first_there (filter t (get_or runs i d)) (joined (drop (suc i) runs)) p e ∙ ap (λ l. slice_get l 0) (sym passed)

  pub from_past : None ≡ slice_get (filter t (get_or runs i d)) 0 → slice_get (joined (drop (i + 1) runs)) 0 ≡ slice_get (filter t (joined runs)) 0
  from_past e = rw add-one (first_past (filter t (get_or runs i d)) (joined (drop (suc i) runs)) e ∙ ap (λ l. slice_get l 0) (sym passed))

-- the index in its run of a pair that stands there
pub stands_in : {V : Type 0} (key : List Datum) (runs : List (List (Pair V))) (p : Position) (r : List (Pair V)) → StandsAt key runs p → r ≡ get_or runs p.run r → IsAt key r p.at
stands_in key runs p r h e = subst (λ l. IsAt key l p.at) (get_or_default runs p.run [] r h.run.inside ∙ sym e) h.at

-- a pair of the run that the key belongs to
pub stands_at : {V : Type 0} (key : List Datum) (runs : List (List (Pair V))) (i at : ℕ) (r : List (Pair V)) → IsIn key runs i → r ≡ get_or runs i r → IsAt key r at → StandsAt key runs (record { run = i; at = at })
stands_at key runs i at r h e found = record { run = h; at = subst (λ l. IsAt key l at) (e ∙ sym (get_or_default runs i [] r h.inside)) found }

-- a run with another value of a key
pub run_exchanged : {V : Type 0} (key : List Datum) (v : V) (r was : List (Pair V)) → IsRun was → r ≡ with_value key v was → IsRun r
run_exchanged key v r was h e = record { some = omega (arith, h.some, ap length e, length-map was (exchanged key v)); room = omega (arith, h.room, ap length e, length-map was (exchanged key v)) }

pub ascending-with_value : {V : Type 0} (key : List Datum) (v : V) (pairs : List (Pair V)) → AreAscending pairs → AreAscending (with_value key v pairs)
ascending-with_value key v pairs up = ascending-keys pairs (with_value key v pairs) (sym (keys-with_value key v pairs)) up

pub take-all : {X : Type 0} (xs : List X) (i : ℕ) → length xs ≤ i → take i xs ≡ xs
take-all [] zero l = refl
take-all [] (suc i) l = refl
take-all (x ∷ xs) zero l = absurd (omega arith)
take-all (x ∷ xs) (suc i) l = ap (λ r. x ∷ r) (take-all xs i (omega arith))

-- one run more is gone through
pub retained : {V : Type 0} (t : Pair V → Bool) (runs start new : List (List (Pair V))) (n i : ℕ) → n ≡ suc i → take n runs ≡ take n start → joined (drop n runs) ≡ filter t (joined (drop n start))
    → n ≤ length start → joined (drop i new) ≡ filter t (get_or runs i []) ++ joined (drop (i + 1) runs) → joined (drop i new) ≡ filter t (joined (drop i start))
retained t runs start new n i same before later l e =
    let first : take (suc i) runs ≡ take (suc i) start = subst (λ j. take j runs ≡ take j start) same before in
    let rest : joined (drop (suc i) runs) ≡ filter t (joined (drop (suc i) start)) = subst (λ j. joined (drop j runs) ≡ filter t (joined (drop j start))) same later in
    let at : joined (drop i new) ≡ filter t (get_or runs i []) ++ joined (drop (suc i) runs) = rw add-one at e in
    at ∙ ap (λ r. filter t r ++ joined (drop (suc i) runs)) (take-get runs start i [] first)
    ∙ ap (λ r. filter t (get_or start i []) ++ r) rest
    ∙ sym (filter-append t (get_or start i []) (joined (drop (suc i) start)))
    ∙ ap (filter t) (sym (joined-drop start i [] (omega (arith, l, same))))

pub taken : {X : Type 0} (runs start new : List X) (n i : ℕ) → n ≡ suc i → take n runs ≡ take n start → take i new ≡ take i runs → take i new ≡ take i start
taken runs start new n i same before e = e ∙ take-less runs start i (subst (λ j. take j runs ≡ take j start) same before)
