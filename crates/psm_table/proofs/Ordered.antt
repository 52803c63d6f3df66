-- Rows in the order of their keys.
use Rattle.std.proofs.Common.{◌≡◌, ℕ, List, [], ◌∷◌, ◌++◌, get_or, Bool, true, false, refl, ap, sym, ◌∙◌, arith, None}
use Rattle.std.specs.Prelude.{All, AllPairs, if◌then◌else◌}
use Rattle.std.specs.Ordering.{is_le, ordering_reverse}
use Rattle.std.specs.declared.cmp.Ordering.{Ordering}
use Rattle.std.specs.declared.cmp.Ordering.TheVariants.{Less, Equal, Greater}
use Rattle.std.proofs.lemmas.List.Elements.{All-cons, All-head, All-nil, All-tail}
use Rattle.std.proofs.lemmas.List.Kept.{AllPairs-cons}
use Rattle.psm_value.specs.declared.datum.Datum.{Datum}
use Rattle.psm_table.specs.Changing.{in_order, is_before, inserted_in}
use Rattle.psm_table.specs.Key.{key_order, row_order, values_at}
use Rattle.psm_table.specs.Rows.{put, row_with, rows_above, IsAscending}
use Rattle.psm_table.proofs.Filters.{AllPairs-first, AllPairs-rest}
use Rattle.psm_table.proofs.KeyLaws.{key_order-total}
use Rattle.psm_table.proofs.Searches.{less_before_equal}
use Rattle.psm_table.proofs.Undo.{after_greater, all-above, none-below}

abbrev Row : Type 0
Row = List Datum

turned : (o : Ordering) → is_le o ≡ false → is_le (ordering_reverse o) ≡ true
turned Less e = cc
turned Equal e = cc
turned Greater e = refl

chained : (a b c : List Datum) (o p : Ordering) → key_order a b ≡ o → key_order b c ≡ p → is_le o ≡ true → is_le p ≡ true → is_le (key_order a c) ≡ true
chained a b c Less Less e f g h = ap is_le (key_order-total.trans a b c e f)
chained a b c Less Equal e f g h = ap is_le (less_before_equal a b c e f)
chained a b c Less Greater e f g h = cc
chained a b c Equal p e f g h = ap is_le (key_order-total.congr a b c e ∙ f) ∙ h
chained a b c Greater p e f g h = cc

module _ (key : List ℕ) where
  -- of two rows one is before the other
  pub before_or_after : (a b : Row) → is_before key a b ≡ false → is_before key b a ≡ true
  before_or_after a b e = ap is_le (key_order-total.antisymm (values_at key b) (values_at key a)) ∙ turned (key_order (values_at key a) (values_at key b)) e

  pub before_chained : (a b c : Row) → is_before key a b ≡ true → is_before key b c ≡ true → is_before key a c ≡ true
  before_chained a b c e f = chained (values_at key a) (values_at key b) (values_at key c) (key_order (values_at key a) (values_at key b)) (key_order (values_at key b) (values_at key c)) refl refl e f

  -- a row that isn't before another one, which isn't before a third one
  after_chained : (x y r : Row) (c : Bool) → is_before key x y ≡ false → is_before key y r ≡ false → is_before key x r ≡ c → is_before key x r ≡ false
  after_chained x y r true e f g =
      let bad : is_before key y r ≡ true = before_chained y x r (before_or_after x y e) g in
      absurd (let no : true ≡ false = sym bad ∙ f in cc)
  after_chained x y r false e f g = g

  -- the rows with a row after those before it and those with the same key
  abbrev pub placed_after : Row → List Row → List Row
  placed_after row [] = row ∷ []
  placed_after row (r ∷ rows) = if is_before key r row then r ∷ placed_after row rows else row ∷ r ∷ rows

  both_step : (x r y : Row) (ys : List Row) (a b c : Bool) → is_before key x y ≡ a → is_before key y r ≡ b → is_before key x r ≡ c
      → inserted_in key x (placed_after r ys) ≡ placed_after r (inserted_in key x ys)
      → inserted_in key x (placed_after r (y ∷ ys)) ≡ placed_after r (inserted_in key x (y ∷ ys))
  both_step x r y ys true true c e f g h = let k : is_before key x r ≡ true = before_chained x y r e f in rw (e, f, k, e) refl
  both_step x r y ys true false true e f g h = rw (e, f, g) refl
  both_step x r y ys true false false e f g h = rw (e, f, g, e) refl
  both_step x r y ys false true c e f g h = rw (e, f, e) (ap (λ l. y ∷ l) h)
  both_step x r y ys false false c e f g h = let k : is_before key x r ≡ false = after_chained x y r c e f g in rw (e, f, k, e) refl

  -- it is the same which of two rows is placed first, one before those with the same key and one after them
  placed_both : (x r : Row) (ys : List Row) → inserted_in key x (placed_after r ys) ≡ placed_after r (inserted_in key x ys)
  placed_both x r [] = refl
  placed_both x r (y ∷ ys) = both_step x r y ys (is_before key x y) (is_before key y r) (is_before key x r) refl refl refl (placed_both x r ys)

  -- the last row goes after those with the same key
  pub in_order-last : (rows : List Row) (row : Row) → in_order key (rows ++ row ∷ []) ≡ placed_after row (in_order key rows)
  in_order-last [] row = refl
  in_order-last (r ∷ rows) row = ap (inserted_in key r) (in_order-last rows row) ∙ placed_both r row (in_order key rows)

  -- a row is put into a table where it is placed
  abbrev Rises : Row → Row → Type 0
  Rises a b = key_order (values_at key a) (values_at key b) ≡ Less

  put_step : (row y : Row) (ys : List Row) (o : Ordering) → IsAscending key (y ∷ ys) → row_order key (values_at key row) y ≡ o
      → (row_with key (values_at key row) ys ≡ None → put key row ys ≡ placed_after row ys)
      → row_with key (values_at key row) (y ∷ ys) ≡ None → put key row (y ∷ ys) ≡ placed_after row (y ∷ ys)
  put_step row y ys Less up e h n = let m : row_with key (values_at key row) ys ≡ None = rw e at n in rw e (ap (λ l. y ∷ l) (h m))
  put_step row y ys Equal up e h n = absurd (let m = rw e at n in cc)
  put_step row y ys Greater up e h n =
      let g = after_greater key (values_at key row) y ys up e in
      rw e (ap (λ l. l ++ row ∷ y ∷ rows_above key (values_at key row) ys) (none-below key (values_at key row) ys g) ∙ ap (λ l. row ∷ y ∷ l) (all-above key (values_at key row) ys g))

  pub put-put_in : (row : Row) (rows : List Row) → IsAscending key rows → row_with key (values_at key row) rows ≡ None → put key row rows ≡ placed_after row rows
  put-put_in row [] up n = refl
  put-put_in row (y ∷ ys) up n = put_step row y ys (row_order key (values_at key row) y) up refl (put-put_in row ys (AllPairs-rest Rises y ys up)) n

  -- rows that ascend are in order
  first_placed : (row : Row) (rows : List Row) → All (Rises row) rows → inserted_in key row rows ≡ row ∷ rows
  first_placed row [] h = refl
  first_placed row (r ∷ rows) h = let e : is_before key row r ≡ true = ap is_le (All-head (Rises row) r rows h) in rw e refl

  pub in_order-ascending : (rows : List Row) → IsAscending key rows → in_order key rows ≡ rows
  in_order-ascending [] up = refl
  in_order-ascending (r ∷ rows) up =
      ap (inserted_in key r) (in_order-ascending rows (AllPairs-rest Rises r rows up)) ∙ first_placed r rows (AllPairs-first Rises r rows up)

  -- what holds of each row holds of each in order
  all_placed_step : (P : Row → Type 0) (row y : Row) (ys : List Row) (b : Bool) → is_before key row y ≡ b → P row → All P (y ∷ ys) → All P (inserted_in key row ys) → All P (inserted_in key row (y ∷ ys))
  all_placed_step P row y ys true e p h t = rw e (All-cons P row (y ∷ ys) p h)
  all_placed_step P row y ys false e p h t = rw e (All-cons P y (inserted_in key row ys) (All-head P y ys h) t)

  pub all_placed : (P : Row → Type 0) (row : Row) (rows : List Row) → P row → All P rows → All P (inserted_in key row rows)
  all_placed P row [] p h = All-cons P row [] p h
  all_placed P row (y ∷ ys) p h = all_placed_step P row y ys (is_before key row y) refl p h (all_placed P row ys p (All-tail P y ys h))

  pub all_in_order : (P : Row → Type 0) (rows : List Row) → All P rows → All P (in_order key rows)
  all_in_order P [] h = h
  all_in_order P (r ∷ rows) h = all_placed P r (in_order key rows) (All-head P r rows h) (all_in_order P rows (All-tail P r rows h))

  -- each row is before each later one
  abbrev pub AreOrdered : List Row → Type 0
  AreOrdered rows = AllPairs (λ a b. is_before key a b ≡ true) rows

  abbrev Before : Row → Row → Type 0
  Before a b = is_before key a b ≡ true

  placed_step : (row y : Row) (ys : List Row) (b : Bool) → is_before key row y ≡ b → AreOrdered (y ∷ ys) → AreOrdered (inserted_in key row ys) → AreOrdered (inserted_in key row (y ∷ ys))
  placed_step row y ys true e h t =
      rw e (AllPairs-cons Before row (y ∷ ys) (All-cons (Before row) y ys e (λ k d l. before_chained row y (get_or ys k d) e (AllPairs-first Before y ys h k d l))) h)
  placed_step row y ys false e h t = rw e (AllPairs-cons Before y (inserted_in key row ys) (all_placed (Before y) row ys (before_or_after row y e) (AllPairs-first Before y ys h)) t)

  placed_ordered : (row : Row) (rows : List Row) → AreOrdered rows → AreOrdered (inserted_in key row rows)
  placed_ordered row [] h = AllPairs-cons Before row [] (All-nil (Before row)) h
  placed_ordered row (y ∷ ys) h = placed_step row y ys (is_before key row y) refl h (placed_ordered row ys (AllPairs-rest Before y ys h))

  pub in_order-ordered : (rows : List Row) → AreOrdered (in_order key rows)
  in_order-ordered [] = λ i j d l m. absurd (omega arith)
  in_order-ordered (r ∷ rows) = placed_ordered r (in_order key rows) (in_order-ordered rows)
