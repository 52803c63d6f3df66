-- A walk over the entries that begin with values, which goes on as long as what it looks for isn't there.
use Rattle.std.proofs.Common.{◌≡◌, ◌<◌, List, length, get_or, Bool, true, false, not, refl, ap, sym, subst, ◌∙◌, arith, Some, None}
use Rattle.std.specs.Prelude.{All, slice_get, Option}
use Rattle.std.proofs.lemmas.List.Elements.{All-nil, All-cons, All-tail, All-head}
use Rattle.std.specs.declared.cmp.Ordering.{Ordering}
use Rattle.std.specs.declared.cmp.Ordering.TheVariants.{Less, Equal, Greater}
use Rattle.std.specs.Ordering.{is_lt, is_gt, is_eq}
use Rattle.psm_value.specs.declared.datum.Datum.{Datum}
use Rattle.psm_table.specs.declared.map.Pair.{Pair}
use Rattle.psm_table.specs.Key.{key_order}
use Rattle.psm_table.specs.Map.{AreAscending, pairs_above, pairs_from, prefix_order}
use Rattle.psm_table.specs.PairPosition.{ahead}
use Rattle.psm_table.proofs.Filters.{filtered, unfiltered, greater_is}
use Rattle.psm_table.proofs.Pairs.{Rises}
use Rattle.psm_table.proofs.Prefixes.{prefix-greater}
use Rattle.psm_table.proofs.Searches.{turned_less}
use Rattle.psm_table.proofs.Walks.{ahead-filter, up-above, up-from}

abbrev Entry : Type 0
Entry = Pair (Unit {0})

module _ (values : List Datum) (is_sought : List Datum → Bool) where
  -- an entry with the values isn't one that is looked for
  abbrev pub Silent : Entry → Type 0
  Silent p = is_eq (prefix_order values p.key) ≡ true → is_sought p.key ≡ false

  -- nor is any of those that begin with smaller values
  not_below : (o : Ordering) → not (is_lt o) ≡ false → is_eq o ≡ true → ⊥
  not_below Less e f = cc
  not_below Equal e f = cc
  not_below Greater e f = cc

  pub silent-from : (entries : List Entry) → All Silent (pairs_from values entries) → All Silent entries
  silent-from entries h =
      unfiltered (λ (p : Entry). not (is_lt (prefix_order values p.key))) Silent
      (λ p e f. absurd (not_below (prefix_order values p.key) e f)) entries h

  -- nor any of those from one on that begins with greater ones
  greater_or : (o : Ordering) → not (is_lt o) ≡ true → is_eq o ≡ false → o ≡ Greater
  greater_or Less e f = cc
  greater_or Equal e f = cc
  greater_or Greater e f = refl

  vacuous : (p : Entry) → prefix_order values p.key ≡ Greater → Silent p
  vacuous p e f = absurd (let g : is_eq Greater ≡ true = ap is_eq (sym e) ∙ f in cc)

  pub silent-end : (entries : List Entry) (p : Entry) → not (is_lt (prefix_order values p.key)) ≡ true → is_eq (prefix_order values p.key) ≡ false
      → All Silent (ahead entries (Some p))
  silent-end entries p n e =
      let g : prefix_order values p.key ≡ Greater = greater_or (prefix_order values p.key) n e in
      let later : All (λ q. Rises p q) (pairs_above p.key entries) = filtered (λ (q : Entry). is_gt (key_order q.key p.key)) (λ q. Rises p q)
      (λ q f. turned_less q.key p.key (greater_is (key_order q.key p.key) f)) entries in
      All-cons Silent p (pairs_above p.key entries) (vacuous p g)
      (λ k d l. vacuous (get_or (pairs_above p.key entries) k d)
      (prefix-greater values p.key (get_or (pairs_above p.key entries) k d).key (later k d l) g))

  -- a walk has come so far: no entry is looked for if none from here on is
  pub record Walked (entries : List Entry) (next : Option Entry) : Type 0 where
    pub rest : All Silent (ahead entries next) → All Silent entries
    pub high : All (λ p. not (is_lt (prefix_order values p.key)) ≡ true) (ahead entries next)

  abbrev High : Entry → Type 0
  High p = not (is_lt (prefix_order values p.key)) ≡ true

  pub walked-start : (entries : List Entry) (next : Option Entry) → AreAscending entries → next ≡ slice_get (pairs_from values entries) 0 → Walked entries next
  walked-start entries next up e =
      let same : ahead entries next ≡ pairs_from values entries =
      ap (ahead entries) e ∙ ahead-filter (λ (p : Entry). not (is_lt (prefix_order values p.key))) entries (up-from values) up in
      record {
        rest = λ a. silent-from entries (subst (All Silent) same a);
        high = subst (All High) (sym same) (filtered (λ (p : Entry). not (is_lt (prefix_order values p.key))) High (λ p f. f) entries);
      }

  next_ahead : (entries : List Entry) (p : Entry) (next : Option Entry) → AreAscending entries → next ≡ slice_get (pairs_above p.key entries) 0 → ahead entries next ≡ pairs_above p.key entries
  next_ahead entries p next up e = ap (ahead entries) e ∙ ahead-filter (λ (q : Entry). is_gt (key_order q.key p.key)) entries (up-above p.key) up

  pub walked-step : (entries : List Entry) (p : Entry) (next : Option Entry) → AreAscending entries → Walked entries (Some p) → Silent p → next ≡ slice_get (pairs_above p.key entries) 0 → Walked entries next
  walked-step entries p next up w h e =
      let same = next_ahead entries p next up e in
      record {
        rest = λ a. w.rest (All-cons Silent p (pairs_above p.key entries) h (subst (All Silent) same a));
        high = subst (All High) (sym same) (All-tail High p (pairs_above p.key entries) w.high);
      }

  pub walked-less : (entries : List Entry) (p : Entry) (next : Option Entry) → AreAscending entries → next ≡ slice_get (pairs_above p.key entries) 0 → length (ahead entries next) < length (ahead entries (Some p))
  walked-less entries p next up e = omega (arith, ap length (next_ahead entries p next up e))

  pub walked-end : (entries : List Entry) (p : Entry) → Walked entries (Some p) → is_eq (prefix_order values p.key) ≡ false → All Silent entries
  walked-end entries p w e = w.rest (silent-end entries p (All-head High p (pairs_above p.key entries) w.high) e)

  pub walked-none : (entries : List Entry) → Walked entries None → All Silent entries
  walked-none entries w = w.rest (All-nil Silent)
