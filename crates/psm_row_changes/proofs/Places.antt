-- Rows that are put in the places of those that have their keys.
use Rattle.std.proofs.Common.{◌≡◌, List, [], ◌∷◌, ◌++◌, append_assoc, Bool, true, false, ◌&&◌, refl, ap, sym, ◌∙◌, ◌<◌, length, get_or, take, drop, suc, subst, Option, Some, None}
use Rattle.std.specs.Prelude.{All, IsSome, filter, find, ℕ, IfSome, option_map, slice_get}
use Rattle.std.specs.List.{list_all}
use Rattle.std.specs.Ordering.{is_eq, is_gt, is_lt, ordering_reverse}
use Rattle.std.specs.declared.cmp.Ordering.TheVariants.{Less, Equal}
use Rattle.std.proofs.lemmas.List.{append-nil}
use Rattle.std.proofs.lemmas.List.Elements.{All-head, All-map, All-tail, filter-append}
use Rattle.std.proofs.lemmas.List.Folds.{list_all-append}
use Rattle.psm_value.specs.declared.datum.Datum.{Datum}
use Rattle.psm_table.specs.Changing.{all_apart, is_filled, keep_rules}
use Rattle.psm_table.specs.Definition.{IsRow}
use Rattle.psm_table.specs.Key.{key_order, row_order, values_at}
use Rattle.psm_table.specs.Rows.{put, row_with, rows_above, rows_below, without, IsAscending}
use Rattle.psm_table.specs.Table.{namesake, with_row, without_row, Contents}
use Rattle.psm_table.proofs.Filters.{equal_is, filtered, filter-empty, filter-whole, less_is, AllPairs-first, AllPairs-rest}
use Rattle.psm_table.proofs.KeyLaws.{key_order-refl, key_order-total}
use Rattle.psm_table.proofs.Ordered.{in_order-ascending}
use Rattle.psm_table.proofs.Rules.{first_true}
use Rattle.psm_table.proofs.Searches.{less_before_equal, less_before_less, turned_greater}
use Rattle.psm_store.specs.RowCalls.{changed_at}
use Rattle.psm_store.proofs.Changes.{get-changed_at}
use Rattle.psm_row_changes.specs.Rows.{fit_in, keys_of_rows, with_rows, without_all, without_keys, AreInPlace}
use Rattle.psm_row_changes.proofs.Effects.{parted}
use Rattle.psm_row_changes.proofs.Leftover.{ascending-all}
use Rattle.psm_row_changes.proofs.InPlace.{changed_row}
use Rattle.psm_row_changes.proofs.Putting.{all_in, AreIn}

abbrev Row : Type 0
Row = List Datum

-- ---- filters

-- it is the same which of two filters comes first
pub crossed : {X : Type 0} (p q : X → Bool) (xs : List X) → filter p (filter q xs) ≡ filter q (filter p xs)
crossed p q [] = refl
crossed p q (x ∷ xs) = step (p x) (q x) refl refl (crossed p q xs) where
  step : (b c : Bool) → p x ≡ b → q x ≡ c → filter p (filter q xs) ≡ filter q (filter p xs) → filter p (filter q (x ∷ xs)) ≡ filter q (filter p (x ∷ xs))
  step true true e f h = rw (f, e, f) (ap (λ l. x ∷ l) h)
  step true false e f h = rw (f, e, f) h
  step false true e f h = rw (f, e) h
  step false false e f h = rw (f, e) h

-- what a search finds is found in a longer list, and after a filter that lets it pass
pub found_cons : {X : Type 0} (p : X → Bool) (x : X) (xs : List X) → IsSome (find p xs) → IsSome (find p (x ∷ xs))
found_cons p x xs h = step (p x) refl where
  step : (b : Bool) → p x ≡ b → IsSome (find p (x ∷ xs))
  step true e = rw e refl
  step false e = rw e h

found_after : {X : Type 0} (p : X → Bool) (xs ys : List X) → IsSome (find p ys) → IsSome (find p (xs ++ ys))
found_after p [] ys h = h
found_after p (x ∷ xs) ys h = found_cons p x (xs ++ ys) (found_after p xs ys h)

step_past : {X : Type 0} (p q : X → Bool) (x : X) (xs : List X) (b c : Bool) → p x ≡ b → q x ≡ c → (p x ≡ true → q x ≡ true) → (IsSome (find p xs) → IsSome (find p (filter q xs))) → IsSome (find p (x ∷ xs)) → IsSome (find p (filter q (x ∷ xs)))
step_past p q x xs true true e g f r h = rw (g, e) refl
step_past p q x xs true false e g f r h = absurd (let bad : true ≡ false = sym (f e) ∙ g in cc)
step_past p q x xs false true e g f r h = rw (g, e) (r (rw e at h))
step_past p q x xs false false e g f r h = rw g (r (rw e at h))

found_past : {X : Type 0} (p q : X → Bool) → ((x : X) → p x ≡ true → q x ≡ true) → (xs : List X) → IsSome (find p xs) → IsSome (find p (filter q xs))
found_past p q f [] h = h
found_past p q f (x ∷ xs) h = step_past p q x xs (p x) (q x) refl refl (f x) (found_past p q f xs) h

-- ---- a row with a smaller key

module _ (columns : List ℕ) where
  abbrev Rises : Row → Row → Type 0
  Rises a b = key_order (values_at columns a) (values_at columns b) ≡ Less

  module _ (row : Row) (key : List Datum) (h : row_order columns key row ≡ Less) (rows : List Row) where
    abbrev own : List Datum
    own = values_at columns row

    abbrev low : List Row
    low = rows_below columns own rows

    abbrev high : List Row
    high = rows_above columns own rows

    smaller : (x : Row) → is_lt (row_order columns own x) ≡ true → row_order columns key x ≡ Less
    smaller x e = less_before_less (values_at columns x) own key (less_is (row_order columns own x) e) h

    low_below : rows_below columns key low ≡ low
    low_below =
        filter-whole (λ x. is_lt (row_order columns key x)) low
        (filtered (λ x. is_lt (row_order columns own x)) (λ x. is_lt (row_order columns key x) ≡ true) (λ x e. ap is_lt (smaller x e)) rows)

    low_above : rows_above columns key low ≡ []
    low_above =
        filter-empty (λ x. is_gt (row_order columns key x)) low
        (filtered (λ x. is_lt (row_order columns own x)) (λ x. is_gt (row_order columns key x) ≡ false) (λ x e. ap is_gt (smaller x e)) rows)

    first_below : rows_below columns key (row ∷ high) ≡ row ∷ rows_below columns key high
    first_below = rw h refl

    first_above : rows_above columns key (row ∷ high) ≡ rows_above columns key high
    first_above = rw h refl

    abbrev greaters : List Row
    greaters = rows_below columns key high ++ rows_above columns key high

    out_of_put : without columns key (put columns row rows) ≡ low ++ row ∷ greaters
    out_of_put =
        ap (λ l. l ++ rows_above columns key (put columns row rows))
        (filter-append (λ x. is_lt (row_order columns key x)) low (row ∷ high) ∙ ap (λ l. l ++ rows_below columns key (row ∷ high)) low_below ∙ ap (λ l. low ++ l) first_below)
        ∙ ap (λ l. (low ++ row ∷ rows_below columns key high) ++ l)
        (filter-append (λ x. is_gt (row_order columns key x)) low (row ∷ high) ∙ ap (λ l. l ++ rows_above columns key (row ∷ high)) low_above ∙ first_above)
        ∙ append_assoc low (row ∷ rows_below columns key high) (rows_above columns key high)

    into_rest : put columns row (without columns key rows) ≡ low ++ row ∷ greaters
    into_rest =
        ap (λ l. l ++ row ∷ rows_above columns own (without columns key rows))
        (filter-append (λ x. is_lt (row_order columns own x)) (rows_below columns key rows) (rows_above columns key rows)
        ∙ ap (λ l. l ++ rows_below columns own (rows_above columns key rows)) (crossed (λ x. is_lt (row_order columns own x)) (λ x. is_lt (row_order columns key x)) rows ∙ low_below)
        ∙ ap (λ l. low ++ l) (crossed (λ x. is_lt (row_order columns own x)) (λ x. is_gt (row_order columns key x)) rows ∙ low_above) ∙ append-nil low)
        ∙ ap (λ l. low ++ row ∷ l)
        (filter-append (λ x. is_gt (row_order columns own x)) (rows_below columns key rows) (rows_above columns key rows)
        ∙ ap (λ l. l ++ rows_above columns own (rows_above columns key rows)) (crossed (λ x. is_gt (row_order columns own x)) (λ x. is_lt (row_order columns key x)) rows)
        ∙ ap (λ l. rows_below columns key high ++ l) (crossed (λ x. is_gt (row_order columns own x)) (λ x. is_gt (row_order columns key x)) rows))

    -- a greater key is taken out before or after
    pub put_without : without columns key (put columns row rows) ≡ put columns row (without columns key rows)
    put_without = out_of_put ∙ sym into_rest

    greater : (x : Row) → is_eq (row_order columns key x) ≡ true → is_gt (row_order columns own x) ≡ true
    greater x e =
        let turned : key_order key (values_at columns x) ≡ Equal = key_order-total.antisymm key (values_at columns x) ∙ ap ordering_reverse (equal_is (row_order columns key x) e) in
        ap is_gt (turned_greater (values_at columns x) own (less_before_equal own key (values_at columns x) h turned))

    -- a row of a greater key stays
    pub still_found : IsSome (row_with columns key rows) → IsSome (row_with columns key (put columns row rows))
    still_found s =
        found_after (λ x. is_eq (row_order columns key x)) low (row ∷ high)
        (found_cons (λ x. is_eq (row_order columns key x)) row high
        (found_past (λ x. is_eq (row_order columns key x)) (λ x. is_gt (row_order columns own x)) greater rows s))

  pub put_without_all : (row : Row) (keys : List (List Datum)) (rows : List Row) → All (λ key. row_order columns key row ≡ Less) keys → without_all columns keys (put columns row rows) ≡ put columns row (without_all columns keys rows)
  put_without_all row [] rows h = refl
  put_without_all row (key ∷ keys) rows h =
      ap (without_all columns keys) (put_without row key (All-head (λ k. row_order columns k row ≡ Less) key keys h) rows)
      ∙ put_without_all row keys (without columns key rows) (All-tail (λ k. row_order columns k row ≡ Less) key keys h)

-- ---- all rows

-- the rows with their keys taken out before or not
pub in_place : (rows : List Row) (c : Contents) → IsAscending c.def.key rows → with_rows rows (without_keys (keys_of_rows c.def rows) c) ≡ with_rows rows c
in_place [] c up = refl
in_place (row ∷ rows) c up =
    let key : List Datum = values_at c.def.key row in
    let keys : List (List Datum) = keys_of_rows c.def rows in
    let later = All-map (λ k. row_order c.def.key k row ≡ Less) (values_at c.def.key) rows (AllPairs-first (Rises c.def.key) row rows up) in
    let first : with_row (without_keys keys (without_row key c)) row ≡ without_keys keys (with_row c row) =
    ap (λ r. record c { rows = r }) (sym (put_without_all c.def.key row keys (without c.def.key key c.rows) later))
    ∙ ap (without_keys keys) (sym (changed_row row key c (key_order-refl key))) in
    ap (with_rows rows) first ∙ in_place rows (with_row c row) (AllPairs-rest (Rises c.def.key) row rows up)

all_after : {X : Type 0} (P : X → Type 0) (xs ys : List X) → All P (xs ++ ys) → All P ys
all_after P [] ys h = h
all_after P (x ∷ xs) ys h = all_after P xs ys (All-tail P x (xs ++ ys) h)

-- a row is there after those before it were put in their places
pub still_named : (xs rest : List Row) (row : Row) (c : Contents) → IsAscending c.def.key (xs ++ row ∷ rest) → IsSome (namesake c row) → IsSome (namesake (with_rows xs c) row)
still_named [] rest row c up s = s
still_named (x ∷ xs) rest row c up s =
    let smaller = All-head (Rises c.def.key x) row rest (all_after (Rises c.def.key x) xs (row ∷ rest) (AllPairs-first (Rises c.def.key) x (xs ++ row ∷ rest) up)) in
    still_named xs rest row (with_row c x) (AllPairs-rest (Rises c.def.key) x (xs ++ row ∷ rest) up) (still_found c.def.key x (values_at c.def.key row) smaller c.rows s)

-- the rules hold exactly where no null stands where it is refused
pub in_place_fits : (rows : List Row) (c : Contents) → AreInPlace c rows → IsAscending c.def.key c.rows → keep_rules c.def (without_keys (keys_of_rows c.def rows) c).rows ≡ true
    → fit_in rows (without_keys (keys_of_rows c.def rows) c) ≡ list_all (is_filled c.def) rows
in_place_fits rows c h up rules =
    let left : Contents = without_keys (keys_of_rows c.def rows) c in
    let rises : IsAscending c.def.key left.rows = ascending-all c.def.key (keys_of_rows c.def rows) c.rows up in
    let together : AreIn rows left.rows left = all_in rows left.rows left (sym (in_order-ascending c.def.key left.rows rises)) rises rules in
    together.rules
    ∙ ap (λ b. list_all (is_filled c.def) (left.rows ++ rows) && b) h.apart
    ∙ and_true (list_all (is_filled c.def) (left.rows ++ rows))
    ∙ list_all-append (is_filled c.def) left.rows rows
    ∙ ap (λ b. b && list_all (is_filled c.def) rows) (first_true (list_all (is_filled c.def) left.rows) (all_apart c.def left.rows) rules)
  where
    and_true : (a : Bool) → (a && true) ≡ a
    and_true true = refl
    and_true false = refl

-- the same with a test of the rows that there are then
pub in_place_may : (among : List Row → Bool) (rows : List Row) (c : Contents) → AreInPlace c rows → IsAscending c.def.key c.rows → keep_rules c.def (without_keys (keys_of_rows c.def rows) c).rows ≡ true
    → (fit_in rows (without_keys (keys_of_rows c.def rows) c) && among (with_rows rows (without_keys (keys_of_rows c.def rows) c)).rows) ≡ (list_all (is_filled c.def) rows && among (with_rows rows c).rows)
in_place_may among rows c h up rules =
    ap (λ b. b && among (with_rows rows (without_keys (keys_of_rows c.def rows) c)).rows) (in_place_fits rows c h up rules)
    ∙ ap (λ (x : Contents). list_all (is_filled c.def) rows && among x.rows) (in_place rows c h.ascend)

-- ---- rows that are put in their places one after another

pub fit_of : (o : Option Contents) (rows : List Row) → IfSome o (λ c. AreInPlace c rows) → IfSome o (λ c. All (IsRow c.def) rows)
fit_of None rows h = tt
fit_of (Some c) rows h = h.fit

-- the row of which the turn is has a row in its place
pub named_at : (old now : List Contents) (t : ℕ) (xs rows : List Row) (row : Row) → now ≡ changed_at (with_rows xs) old t → xs ≡ take (length xs) rows → length xs < length rows → row ≡ get_or rows (length xs) row
    → IfSome (slice_get old t) (λ c. AreInPlace c rows) → IfSome (slice_get now t) (λ c. IsSome (namesake c row))
named_at old now t xs rows row e s l r h =
    by (drop (suc (length xs)) rows) (slice_get old t) (slice_get now t) (ap (λ k. slice_get k t) e ∙ get-changed_at (with_rows xs) old t) (parted xs rows row s l r) h
  where
    by : (rest : List Row) (o p : Option Contents) → p ≡ option_map (with_rows xs) o → rows ≡ xs ++ row ∷ rest → IfSome o (λ c. AreInPlace c rows) → IfSome p (λ c. IsSome (namesake c row))
    by rest None p f q g = subst (λ z. IfSome z (λ c. IsSome (namesake c row))) (sym f) tt
    by rest (Some c) p f q g =
        let up : IsAscending c.def.key (xs ++ row ∷ rest) = subst (IsAscending c.def.key) q g.ascend in
        let here : IsSome (namesake c row) = subst (λ z. IsSome (namesake c z)) (sym r) (g.named (length xs) row l) in
        subst (λ z. IfSome z (λ d. IsSome (namesake d row))) (sym f) (still_named xs rest row c up here)
