-- The rows of a map from keys to rows, when a pair is put in or its row exchanged.
use Rattle.std.proofs.Common.{◌≡◌, ◌⊎◌, inl, inr, ℕ, List, [], ◌∷◌, ◌++◌, Bool, true, false, refl, ap, sym, ◌∙◌, Some, None}
use Rattle.std.specs.Prelude.{All, cond, Option, IfSome, IsSome, filter, option_map, if◌then◌else◌}
use Rattle.std.specs.List.{cons_option}
use Rattle.std.proofs.lemmas.List.Elements.{All-nil, All-cons, All-tail, All-head, All-append, All-filter, filter_map-append}
use Rattle.std.specs.declared.cmp.Ordering.{Ordering}
use Rattle.std.specs.declared.cmp.Ordering.TheVariants.{Less, Equal, Greater}
use Rattle.std.specs.Ordering.{is_lt, is_gt, is_eq, ordering_reverse}
use Rattle.psm_value.specs.declared.datum.Datum.{Datum}
use Rattle.psm_table.specs.declared.map.Pair.{Pair}
use Rattle.psm_table.specs.Held.{live_rows, row_of, the_row, HasItsKey}
use Rattle.psm_table.specs.Key.{key_order, row_order, values_at}
use Rattle.psm_table.specs.Map.{AreAscending, exchanged, pair_with, pairs_above, pairs_below, with_pair, with_value}
use Rattle.psm_table.specs.PairPosition.{ahead}
use Rattle.psm_table.specs.Rows.{put, row_with, rows_above, rows_below, without}
use Rattle.psm_table.proofs.KeyLaws.{key_order-refl, key_order-total}
use Rattle.psm_table.proofs.Filters.{equal_is, none_some, filter-whole, filter-empty, AllPairs-rest}
use Rattle.psm_table.proofs.Pairs.{Rises, after_equal, after_greater, with_value-greater}

abbrev pub Row : Type 0
Row = List Datum

abbrev pub Slot : Type 0
Slot = Pair (Option (List Datum))

module _ (columns : List ℕ) (key : List Datum) where
  -- a row stands to the key as its pair does
  as_pair : (p : Slot) (row : Row) → row_order columns p.key row ≡ Equal → row_order columns key row ≡ key_order p.key key
  as_pair p row e = key_order-total.congr (values_at columns row) p.key key e

  -- the rows that stand to the key as a test of orders says are those of the pairs that do
  rows_first : (t : Ordering → Bool) (p : Slot) (o : Option Row) (rows : List Row) (b : Bool) → IfSome o (λ row. row_order columns p.key row ≡ Equal) → t (key_order p.key key) ≡ b
      → filter (λ row. t (row_order columns key row)) (cons_option o rows) ≡ cond b (cons_option o (filter (λ row. t (row_order columns key row)) rows)) (filter (λ row. t (row_order columns key row)) rows)
  rows_first t p None rows true h e = refl
  rows_first t p None rows false h e = refl
  rows_first t p (Some row) rows b h e =
      let f : t (row_order columns key row) ≡ b = ap t (as_pair p row h) ∙ e in
      ap (λ c. cond c (row ∷ filter (λ r. t (row_order columns key r)) rows) (filter (λ r. t (row_order columns key r)) rows)) f

  pairs_first : (p : Slot) (xs : List Slot) (b : Bool) → cond b (cons_option p.value (live_rows xs)) (live_rows xs) ≡ live_rows (cond b (p ∷ xs) xs)
  pairs_first p xs true = refl
  pairs_first p xs false = refl

  pub rows-filter : (t : Ordering → Bool) (pairs : List Slot) → All (HasItsKey columns) pairs
      → filter (λ row. t (row_order columns key row)) (live_rows pairs) ≡ live_rows (filter (λ p. t (key_order p.key key)) pairs)
  rows-filter t [] h = refl
  rows-filter t (p ∷ ps) h =
      rows_first t p p.value (live_rows ps) (t (key_order p.key key)) (All-head (HasItsKey columns) p ps h) refl
      ∙ ap (λ l. cond (t (key_order p.key key)) (cons_option p.value l) l) (rows-filter t ps (All-tail (HasItsKey columns) p ps h))
      ∙ pairs_first p (filter (λ q. t (key_order q.key key)) ps) (t (key_order p.key key))

  pub rows-below : (pairs : List Slot) → All (HasItsKey columns) pairs → rows_below columns key (live_rows pairs) ≡ live_rows (pairs_below key pairs)
  rows-below pairs h = rows-filter is_lt pairs h

  pub rows-above : (pairs : List Slot) → All (HasItsKey columns) pairs → rows_above columns key (live_rows pairs) ≡ live_rows (pairs_above key pairs)
  rows-above pairs h = rows-filter is_gt pairs h

  -- rows of pairs that are all greater than the key
  abbrev pub AreGreater : List Slot → Type 0
  AreGreater ps = All (λ q. key_order q.key key ≡ Greater) ps

  find-first : (p : Slot) (o : Option Row) (rows : List Row) (c : Ordering) → IfSome o (λ row. row_order columns p.key row ≡ Equal) → key_order p.key key ≡ c → is_eq c ≡ false
      → row_with columns key (cons_option o rows) ≡ row_with columns key rows
  find-first p None rows c h e f = refl
  find-first p (Some row) rows c h e f =
      ap (λ b. cond b (Some row) (row_with columns key rows)) (ap is_eq (as_pair p row h ∙ e) ∙ f)

  rows-find_none : (pairs : List Slot) → All (HasItsKey columns) pairs → AreGreater pairs → row_with columns key (live_rows pairs) ≡ None
  rows-find_none [] h g = refl
  rows-find_none (p ∷ ps) h g =
      let e : key_order p.key key ≡ Greater = All-head (λ (q : Slot). key_order q.key key ≡ Greater) p ps g in
      find-first p p.value (live_rows ps) Greater (All-head (HasItsKey columns) p ps h) e refl
      ∙ rows-find_none ps (All-tail (HasItsKey columns) p ps h) (All-tail (λ (q : Slot). key_order q.key key ≡ Greater) p ps g)

  find-equal : (p : Slot) (o : Option Row) (rows : List Row) → IfSome o (λ row. row_order columns p.key row ≡ Equal) → key_order p.key key ≡ Equal → row_with columns key rows ≡ None
      → row_with columns key (cons_option o rows) ≡ o
  find-equal p None rows h e f = f
  find-equal p (Some row) rows h e f = ap (λ b. cond b (Some row) (row_with columns key rows)) (ap is_eq (as_pair p row h ∙ e))

  the_value : (o : Option Row) → the_row (Some o) ≡ o
  the_value None = refl
  the_value (Some row) = refl

  find-step : (p : Slot) (ps : List Slot) (c : Ordering) → AreAscending (p ∷ ps) → All (HasItsKey columns) (p ∷ ps) → key_order p.key key ≡ c
      → row_of key ps ≡ row_with columns key (live_rows ps)
      → the_row (option_map (λ (q : Slot). q.value) (cond (is_eq c) (Some p) (pair_with key ps))) ≡ row_with columns key (cons_option p.value (live_rows ps))
  find-step p ps Less up h e t = t ∙ sym (find-first p p.value (live_rows ps) Less (All-head (HasItsKey columns) p ps h) e refl)
  find-step p ps Greater up h e t = t ∙ sym (find-first p p.value (live_rows ps) Greater (All-head (HasItsKey columns) p ps h) e refl)
  find-step p ps Equal up h e t =
      the_value p.value ∙ sym (find-equal p p.value (live_rows ps) (All-head (HasItsKey columns) p ps h) e
      (rows-find_none ps (All-tail (HasItsKey columns) p ps h) (after_equal key p ps up e)))

  -- the row of a key is the one that has it
  pub rows-find : (pairs : List Slot) → AreAscending pairs → All (HasItsKey columns) pairs → row_of key pairs ≡ row_with columns key (live_rows pairs)
  rows-find [] up h = refl
  rows-find (p ∷ ps) up h =
      find-step p ps (key_order p.key key) up h refl (rows-find ps (AllPairs-rest Rises p ps up) (All-tail (HasItsKey columns) p ps h))

  -- the rows below and above the key, where each pair is greater
  below-greater : (ps : List Slot) → All (HasItsKey columns) ps → AreGreater ps → rows_below columns key (live_rows ps) ≡ []
  below-greater ps h g =
      rows-below ps h ∙ ap live_rows (filter-empty (λ (q : Slot). is_lt (key_order q.key key)) ps (λ k d l. ap is_lt (g k d l)))

  above-greater : (ps : List Slot) → All (HasItsKey columns) ps → AreGreater ps → rows_above columns key (live_rows ps) ≡ live_rows ps
  above-greater ps h g =
      rows-above ps h ∙ ap live_rows (filter-whole (λ (q : Slot). is_gt (key_order q.key key)) ps (λ k d l. ap is_gt (g k d l)))

  -- the rows around the key, with some rows between them
  abbrev pub around : List Row → List Row → List Row
  around between rows = rows_below columns key rows ++ (between ++ rows_above columns key rows)

  between-first : (v : Option Row) (rows : List Row) → cons_option v rows ≡ cons_option v [] ++ rows
  between-first None rows = refl
  between-first (Some row) rows = refl

  find-greater : (ps : List Slot) → AreGreater ps → pair_with key ps ≡ None
  find-greater [] g = refl
  find-greater (p ∷ ps) g =
      let e : key_order p.key key ≡ Greater = All-head (λ (q : Slot). key_order q.key key ≡ Greater) p ps g in
      let t = find-greater ps (All-tail (λ (q : Slot). key_order q.key key ≡ Greater) p ps g) in
      rw e t

  -- a pair with another row at the key: the rows `between` are the new one, or none
  around-first : (p : Slot) (o : Option Row) (between rows : List Row) (c : Ordering) → IfSome o (λ row. row_order columns p.key row ≡ Equal) → key_order p.key key ≡ c → c ≡ Less
      → around between (cons_option o rows) ≡ cons_option o (around between rows)
  around-first p None between rows c h e f = refl
  around-first p (Some row) between rows c h e f =
      let g : row_order columns key row ≡ Less = as_pair p row h ∙ e ∙ f in
      rw g refl

  around-equal : (p : Slot) (o : Option Row) (between : List Row) (ps : List Slot) → IfSome o (λ row. row_order columns p.key row ≡ Equal) → key_order p.key key ≡ Equal
      → All (HasItsKey columns) ps → AreGreater ps → around between (cons_option o (live_rows ps)) ≡ between ++ live_rows ps
  around-equal p None between ps h e hs g =
      ap (λ low. low ++ (between ++ rows_above columns key (live_rows ps))) (below-greater ps hs g) ∙ ap (λ high. between ++ high) (above-greater ps hs g)
  around-equal p (Some row) between ps h e hs g =
      let f : row_order columns key row ≡ Equal = as_pair p row h ∙ e in
      let low = below-greater ps hs g in
      let high = above-greater ps hs g in
      rw f (ap (λ l. l ++ (between ++ rows_above columns key (live_rows ps))) low ∙ ap (λ l. between ++ l) high)

  around-greater : (between : List Row) (ps : List Slot) → All (HasItsKey columns) ps → AreGreater ps → around between (live_rows ps) ≡ between ++ live_rows ps
  around-greater between ps hs g =
      ap (λ low. low ++ (between ++ rows_above columns key (live_rows ps))) (below-greater ps hs g) ∙ ap (λ high. between ++ high) (above-greater ps hs g)

  -- a row is put in where the key has a slot, or taken out
  exchange-step : (v : Option Row) (p : Slot) (ps : List Slot) (c : Ordering) → AreAscending (p ∷ ps) → All (HasItsKey columns) (p ∷ ps) → key_order p.key key ≡ c
      → (IsSome (pair_with key ps) ⊎ (v ≡ None) → live_rows (with_value key v ps) ≡ around (cons_option v []) (live_rows ps))
      → IsSome (cond (is_eq c) (Some p) (pair_with key ps)) ⊎ (v ≡ None)
      → cons_option (cond (is_eq c) v p.value) (live_rows (with_value key v ps)) ≡ around (cons_option v []) (cons_option p.value (live_rows ps))
  exchange-step v p ps Less up h e t s =
      ap (cons_option p.value) (t s) ∙ sym (around-first p p.value (cons_option v []) (live_rows ps) Less (All-head (HasItsKey columns) p ps h) e refl)
  exchange-step v p ps Equal up h e t s =
      let g : AreGreater ps = after_equal key p ps up e in
      let hs = All-tail (HasItsKey columns) p ps h in
      ap (λ l. cons_option v (live_rows l)) (with_value-greater key v ps g) ∙ between-first v (live_rows ps)
      ∙ sym (around-equal p p.value (cons_option v []) ps (All-head (HasItsKey columns) p ps h) e hs g)
  exchange-step v p ps Greater up h e t (inl s) =
      let none : pair_with key ps ≡ None = find-greater ps (after_greater key p ps up e) in
      absurd (none_some (pair_with key ps) none s)
  exchange-step v p ps Greater up h e t (inr none) =
      let g : AreGreater ps = after_greater key p ps up e in
      let all : AreGreater (p ∷ ps) = All-cons (λ (q : Slot). key_order q.key key ≡ Greater) p ps e g in
      ap (λ l. cons_option p.value (live_rows l)) (with_value-greater key v ps g)
      ∙ sym (ap (λ o. around (cons_option o []) (live_rows (p ∷ ps))) none ∙ around-greater [] (p ∷ ps) h all)

  value-exchanged : (v : Option Row) (p : Slot) (b : Bool) → (if b then record { key = p.key; value = v } else p).value ≡ cond b v p.value
  value-exchanged v p true = refl
  value-exchanged v p false = refl

  pub live-with_value : (v : Option Row) (pairs : List Slot) → AreAscending pairs → All (HasItsKey columns) pairs → IsSome (pair_with key pairs) ⊎ (v ≡ None)
      → live_rows (with_value key v pairs) ≡ around (cons_option v []) (live_rows pairs)
  live-with_value v [] up h (inl s) = absurd cc
  live-with_value v [] up h (inr none) = sym (ap (λ o. around (cons_option o []) []) none)
  live-with_value v (p ∷ ps) up h s =
      ap (λ o. cons_option o (live_rows (with_value key v ps))) (value-exchanged v p (is_eq (key_order p.key key)))
      ∙ exchange-step v p ps (key_order p.key key) up h refl
      (live-with_value v ps (AllPairs-rest Rises p ps up) (All-tail (HasItsKey columns) p ps h)) s

  -- without a row at the key
  pub live-hidden : (pairs : List Slot) → AreAscending pairs → All (HasItsKey columns) pairs → live_rows (with_value key None pairs) ≡ without columns key (live_rows pairs)
  live-hidden pairs up h = live-with_value None pairs up h (inr refl)

-- with a row at its key, which has a slot
pub live-replaced : (columns : List ℕ) (row : Row) (pairs : List Slot) → AreAscending pairs → All (HasItsKey columns) pairs → IsSome (pair_with (values_at columns row) pairs)
    → live_rows (with_value (values_at columns row) (Some row) pairs) ≡ put columns row (live_rows pairs)
live-replaced columns row pairs up h s = live-with_value columns (values_at columns row) (Some row) pairs up h (inl s)

-- with a row at its key, which has no slot
pub live-inserted : (columns : List ℕ) (row : Row) (pairs : List Slot) → All (HasItsKey columns) pairs
    → live_rows (with_pair (record { key = values_at columns row; value = Some row }) pairs) ≡ put columns row (live_rows pairs)
live-inserted columns row pairs h =
    let key = values_at columns row in
    filter_map-append (λ (p : Slot). p.value) (pairs_below key pairs) (record { key = key; value = Some row } ∷ pairs_above key pairs)
    ∙ ap (λ l. l ++ row ∷ live_rows (pairs_above key pairs)) (sym (rows-below columns key pairs h))
    ∙ ap (λ l. rows_below columns key (live_rows pairs) ++ row ∷ l) (sym (rows-above columns key pairs h))

-- each row has its pair's key
keyed-exchanged : (columns : List ℕ) (key : List Datum) (v : Option Row) (p : Slot) (b : Bool) → is_eq (key_order p.key key) ≡ b → IfSome v (λ row. values_at columns row ≡ key)
    → HasItsKey columns p → HasItsKey columns (if b then record { key = p.key; value = v } else p)
keyed-exchanged columns key v p false e f h = h
keyed-exchanged columns key None p true e f h = tt
keyed-exchanged columns key (Some row) p true e f h =
    let same : key_order p.key key ≡ Equal = equal_is (key_order p.key key) e in
    ap (λ k. key_order k p.key) f ∙ key_order-total.antisymm key p.key ∙ ap ordering_reverse same

pub keyed-with_value : (columns : List ℕ) (key : List Datum) (v : Option Row) (pairs : List Slot) → IfSome v (λ row. values_at columns row ≡ key)
    → All (HasItsKey columns) pairs → All (HasItsKey columns) (with_value key v pairs)
keyed-with_value columns key v [] f h = All-nil (HasItsKey columns)
keyed-with_value columns key v (p ∷ ps) f h =
    All-cons (HasItsKey columns) (exchanged key v p) (with_value key v ps)
    (keyed-exchanged columns key v p (is_eq (key_order p.key key)) refl f (All-head (HasItsKey columns) p ps h))
    (keyed-with_value columns key v ps f (All-tail (HasItsKey columns) p ps h))

pub keyed-with_pair : (columns : List ℕ) (row : Row) (pairs : List Slot)
    → All (HasItsKey columns) pairs → All (HasItsKey columns) (with_pair (record { key = values_at columns row; value = Some row }) pairs)
keyed-with_pair columns row pairs h =
    let key = values_at columns row in
    All-append (HasItsKey columns) (pairs_below key pairs) (record { key = key; value = Some row } ∷ pairs_above key pairs)
    (All-filter (λ (q : Slot). is_lt (key_order q.key key)) (HasItsKey columns) pairs h)
    (All-cons (HasItsKey columns) (record { key = key; value = Some row }) (pairs_above key pairs) (key_order-refl key)
    (All-filter (λ (q : Slot). is_gt (key_order q.key key)) (HasItsKey columns) pairs h))

-- a walk past a key without a row, and to a row
pub flagged-ahead : (pairs : List Slot) (p : Slot) → p.value ≡ None → live_rows (ahead pairs (Some p)) ≡ live_rows (pairs_above p.key pairs)
flagged-ahead pairs p e = ap (λ o. cons_option o (live_rows (pairs_above p.key pairs))) e
