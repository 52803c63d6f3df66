-- Changes of one row that undo one another.
use Rattle.std.proofs.Common.{◌≡◌, ℕ, List, [], ◌∷◌, ◌++◌, get_or, Bool, refl, ap, sym, ◌∙◌, Some, None}
use Rattle.std.specs.Prelude.{All, cond, filter}
use Rattle.std.proofs.lemmas.List.{append-nil}
use Rattle.std.proofs.lemmas.List.Elements.{All-nil, All-cons, All-head, All-tail, filter-append}
use Rattle.std.specs.declared.cmp.Ordering.{Ordering}
use Rattle.std.specs.declared.cmp.Ordering.TheVariants.{Less, Equal, Greater}
use Rattle.std.specs.Ordering.{is_lt, is_gt, is_eq}
use Rattle.std.specs.Cmp.{alike_right}
use Rattle.psm_value.specs.declared.datum.Datum.{Datum}
use Rattle.psm_table.specs.Key.{values_at, key_order, row_order}
use Rattle.psm_table.specs.Rows.{IsAscending, rows_below, rows_above, row_with, put, without}
use Rattle.psm_table.specs.Table.{Contents, IsTable, keyed, namesake, with_row, without_row}
use Rattle.psm_table.proofs.Filters.{equal_is, filtered, filter-empty, filter-whole, find_passes, greater_is, less_is, AllPairs-first, AllPairs-rest}
use Rattle.psm_table.proofs.KeyLaws.{key_order-refl, key_order-total}
use Rattle.psm_table.proofs.Searches.{greater_after_equal, greater_after_greater}

abbrev Row : Type 0
Row = List Datum

filter-alike : {X : Type 0} (s t : X → Bool) → ((x : X) → s x ≡ t x) → (xs : List X) → filter s xs ≡ filter t xs
filter-alike s t h [] = refl
filter-alike s t h (x ∷ xs) =
    ap (λ b. cond b (x ∷ filter s xs) (filter s xs)) (h x) ∙ ap (λ l. cond (t x) (x ∷ l) l) (filter-alike s t h xs)

module _ (columns : List ℕ) where
  abbrev Rises : Row → Row → Type 0
  Rises a b = key_order (values_at columns a) (values_at columns b) ≡ Less

  module _ (key : List Datum) where
    abbrev Greaters : List Row → Type 0
    Greaters rows = All (λ r. row_order columns key r ≡ Greater) rows

    pub after_equal : (x : Row) (xs : List Row) → IsAscending columns (x ∷ xs) → row_order columns key x ≡ Equal → Greaters xs
    after_equal x xs up e k d l = greater_after_equal (values_at columns x) (values_at columns (get_or xs k d)) key (AllPairs-first Rises x xs up k d l) e

    pub after_greater : (x : Row) (xs : List Row) → IsAscending columns (x ∷ xs) → row_order columns key x ≡ Greater → Greaters xs
    after_greater x xs up e k d l = greater_after_greater (values_at columns x) (values_at columns (get_or xs k d)) key (AllPairs-first Rises x xs up k d l) e

    pub none-below : (xs : List Row) → Greaters xs → rows_below columns key xs ≡ []
    none-below xs g = filter-empty (λ r. is_lt (row_order columns key r)) xs (λ k d l. ap is_lt (g k d l))

    pub all-above : (xs : List Row) → Greaters xs → rows_above columns key xs ≡ xs
    all-above xs g = filter-whole (λ r. is_gt (row_order columns key r)) xs (λ k d l. ap is_gt (g k d l))

    -- rows without and with a row of the key, put together again
    whole-step : (x : Row) (xs : List Row) (o : Ordering) → IsAscending columns (x ∷ xs) → row_order columns key x ≡ o
        → (row_with columns key xs ≡ None → rows_below columns key xs ++ rows_above columns key xs ≡ xs)
        → cond (is_eq o) (Some x) (row_with columns key xs) ≡ None
        → cond (is_lt o) (x ∷ rows_below columns key xs) (rows_below columns key xs) ++ cond (is_gt o) (x ∷ rows_above columns key xs) (rows_above columns key xs) ≡ x ∷ xs
    whole-step x xs Less up e h n = ap (λ l. x ∷ l) (h n)
    whole-step x xs Equal up e h n = cc
    whole-step x xs Greater up e h n =
        let g = after_greater x xs up e in
        ap (λ l. l ++ x ∷ rows_above columns key xs) (none-below xs g) ∙ ap (λ l. x ∷ l) (all-above xs g)

    pub whole : (rows : List Row) → IsAscending columns rows → row_with columns key rows ≡ None → rows_below columns key rows ++ rows_above columns key rows ≡ rows
    whole [] up n = refl
    whole (x ∷ xs) up n = whole-step x xs (row_order columns key x) up refl (whole xs (AllPairs-rest Rises x xs up)) n

    none-found : (xs : List Row) → Greaters xs → row_with columns key xs ≡ None
    none-found [] g = refl
    none-found (x ∷ xs) g =
        let e : row_order columns key x ≡ Greater = All-head (λ r. row_order columns key r ≡ Greater) x xs g in
        let t = none-found xs (All-tail (λ r. row_order columns key r ≡ Greater) x xs g) in
        rw e t

    parts-step : (x : Row) (xs : List Row) (row : Row) (o : Ordering) → IsAscending columns (x ∷ xs) → row_order columns key x ≡ o
        → (row_with columns key xs ≡ Some row → rows_below columns key xs ++ row ∷ rows_above columns key xs ≡ xs)
        → cond (is_eq o) (Some x) (row_with columns key xs) ≡ Some row
        → cond (is_lt o) (x ∷ rows_below columns key xs) (rows_below columns key xs) ++ row ∷ cond (is_gt o) (x ∷ rows_above columns key xs) (rows_above columns key xs) ≡ x ∷ xs
    parts-step x xs row Less up e h s = ap (λ l. x ∷ l) (h s)
    parts-step x xs row Equal up e h s =
        let g = after_equal x xs up e in
        let same : row ≡ x = cc in
        ap (λ l. l ++ row ∷ rows_above columns key xs) (none-below xs g) ∙ ap (λ l. row ∷ l) (all-above xs g) ∙ ap (λ r. r ∷ xs) same
    parts-step x xs row Greater up e h s =
        let g = after_greater x xs up e in
        absurd (let t : Some row ≡ None = sym s ∙ none-found xs g in cc)

    parts : (rows : List Row) (row : Row) → IsAscending columns rows → row_with columns key rows ≡ Some row → rows_below columns key rows ++ row ∷ rows_above columns key rows ≡ rows
    parts [] row up s = cc
    parts (x ∷ xs) row up s = parts-step x xs row (row_order columns key x) up refl (parts xs row (AllPairs-rest Rises x xs up)) s

    -- the rows around the key, also where others of the key stand between them
    module _ (mid rows : List Row) (equal : All (λ r. row_order columns key r ≡ Equal) mid) where
      abbrev around : List Row
      around = rows_below columns key rows ++ (mid ++ rows_above columns key rows)

      lows : All (λ r. row_order columns key r ≡ Less) (rows_below columns key rows)
      lows = filtered (λ r. is_lt (row_order columns key r)) (λ r. row_order columns key r ≡ Less) (λ r e. less_is (row_order columns key r) e) rows

      highs : All (λ r. row_order columns key r ≡ Greater) (rows_above columns key rows)
      highs = filtered (λ r. is_gt (row_order columns key r)) (λ r. row_order columns key r ≡ Greater) (λ r e. greater_is (row_order columns key r) e) rows

      pub below-again : rows_below columns key around ≡ rows_below columns key rows
      below-again =
          filter-append (λ r. is_lt (row_order columns key r)) (rows_below columns key rows) (mid ++ rows_above columns key rows)
          ∙ ap (λ l. rows_below columns key (rows_below columns key rows) ++ l)
          (filter-append (λ r. is_lt (row_order columns key r)) mid (rows_above columns key rows)
          ∙ ap (λ l. l ++ rows_below columns key (rows_above columns key rows)) (filter-empty (λ r. is_lt (row_order columns key r)) mid (λ k d l. ap is_lt (equal k d l)))
          ∙ filter-empty (λ r. is_lt (row_order columns key r)) (rows_above columns key rows) (λ k d l. ap is_lt (highs k d l)))
          ∙ append-nil (rows_below columns key (rows_below columns key rows))
          ∙ filter-whole (λ r. is_lt (row_order columns key r)) (rows_below columns key rows) (λ k d l. ap is_lt (lows k d l))

      pub above-again : rows_above columns key around ≡ rows_above columns key rows
      above-again =
          filter-append (λ r. is_gt (row_order columns key r)) (rows_below columns key rows) (mid ++ rows_above columns key rows)
          ∙ ap (λ l. l ++ rows_above columns key (mid ++ rows_above columns key rows)) (filter-empty (λ r. is_gt (row_order columns key r)) (rows_below columns key rows) (λ k d l. ap is_gt (lows k d l)))
          ∙ filter-append (λ r. is_gt (row_order columns key r)) mid (rows_above columns key rows)
          ∙ ap (λ l. l ++ rows_above columns key (rows_above columns key rows)) (filter-empty (λ r. is_gt (row_order columns key r)) mid (λ k d l. ap is_gt (equal k d l)))
          ∙ filter-whole (λ r. is_gt (row_order columns key r)) (rows_above columns key rows) (λ k d l. ap is_gt (highs k d l))

  -- rows stand to equal keys alike
  alike : (key other : List Datum) → key_order key other ≡ Equal → (r : Row) → row_order columns other r ≡ row_order columns key r
  alike key other e r = sym (alike_right key_order-total key other (values_at columns r) e)

  put-alike : (key : List Datum) (row : Row) (rows : List Row) → row_order columns key row ≡ Equal → put columns row rows ≡ rows_below columns key rows ++ row ∷ rows_above columns key rows
  put-alike key row rows e =
      ap (λ l. l ++ row ∷ rows_above columns (values_at columns row) rows)
      (filter-alike (λ r. is_lt (row_order columns (values_at columns row) r)) (λ r. is_lt (row_order columns key r)) (λ r. sym (ap is_lt (alike (values_at columns row) key e r))) rows)
      ∙ ap (λ l. rows_below columns key rows ++ row ∷ l)
      (filter-alike (λ r. is_gt (row_order columns (values_at columns row) r)) (λ r. is_gt (row_order columns key r)) (λ r. sym (ap is_gt (alike (values_at columns row) key e r))) rows)

  found_equal : (key : List Datum) (rows : List Row) (row : Row) → row_with columns key rows ≡ Some row → row_order columns key row ≡ Equal
  found_equal key rows row s = equal_is (row_order columns key row) (find_passes (λ r. is_eq (row_order columns key r)) rows row s)

  one : (key : List Datum) (row : Row) → row_order columns key row ≡ Equal → All (λ r. row_order columns key r ≡ Equal) (row ∷ [])
  one key row e = All-cons (λ r. row_order columns key r ≡ Equal) row [] e (All-nil (λ r. row_order columns key r ≡ Equal))

  pub without-put : (row : Row) (rows : List Row) → IsAscending columns rows → row_with columns (values_at columns row) rows ≡ None → without columns (values_at columns row) (put columns row rows) ≡ rows
  without-put row rows up n =
      let key = values_at columns row in
      let mid = one key row (key_order-refl key) in
      ap (λ l. l ++ rows_above columns key (put columns row rows)) (below-again key (row ∷ []) rows mid)
      ∙ ap (λ l. rows_below columns key rows ++ l) (above-again key (row ∷ []) rows mid)
      ∙ whole key rows up n

  pub put-without : (key : List Datum) (row : Row) (rows : List Row) → IsAscending columns rows → row_with columns key rows ≡ Some row → put columns row (without columns key rows) ≡ rows
  put-without key row rows up s =
      let mid : All (λ r. row_order columns key r ≡ Equal) [] = All-nil (λ r. row_order columns key r ≡ Equal) in
      put-alike key row (without columns key rows) (found_equal key rows row s)
      ∙ ap (λ l. l ++ row ∷ rows_above columns key (without columns key rows)) (below-again key [] rows mid)
      ∙ ap (λ l. rows_below columns key rows ++ row ∷ l) (above-again key [] rows mid)
      ∙ parts key rows row up s

  pub put-put : (row was : Row) (rows : List Row) → IsAscending columns rows → row_with columns (values_at columns row) rows ≡ Some was → put columns was (put columns row rows) ≡ rows
  put-put row was rows up s =
      let key = values_at columns row in
      let mid = one key row (key_order-refl key) in
      put-alike key was (put columns row rows) (found_equal key rows was s)
      ∙ ap (λ l. l ++ was ∷ rows_above columns key (put columns row rows)) (below-again key (row ∷ []) rows mid)
      ∙ ap (λ l. rows_below columns key rows ++ was ∷ l) (above-again key (row ∷ []) rows mid)
      ∙ parts key rows was up s

-- a row that was inserted is taken out again
pub hidden-inserted : (t : Contents) (row : Row) → IsTable t → namesake t row ≡ None → without_row (values_at t.def.key row) (with_row t row) ≡ t
hidden-inserted t row h n = ap (λ r. record t { rows = r }) (without-put t.def.key row t.rows h.ascend n)

-- a row that was taken out is put back
pub revived-hidden : (t : Contents) (key row : List Datum) → IsTable t → keyed t key ≡ Some row → with_row (without_row key t) row ≡ t
revived-hidden t key row h s = ap (λ r. record t { rows = r }) (put-without t.def.key key row t.rows h.ascend s)

-- a row in whose place another was put is put back
pub revived-swapped : (t : Contents) (row was : Row) → IsTable t → namesake t row ≡ Some was → with_row (with_row t row) was ≡ t
revived-swapped t row was h s = ap (λ r. record t { rows = r }) (put-put t.def.key row was t.rows h.ascend s)
