-- What it means that no row clashes.
use Rattle.std.proofs.Common.{◌≡◌, ℕ, List, [], ◌∷◌, get_or, Bool, true, false, not, ◌&&◌, ◌||◌, refl, ap, sym, subst, ◌∙◌, arith}
use Rattle.std.specs.Prelude.{All, AllPairs, cond}
use Rattle.std.specs.List.{list_any}
use Rattle.std.proofs.lemmas.List.Elements.{All-nil, All-cons, All-filter}
use Rattle.std.proofs.lemmas.List.Kept.{AllPairs-cons, AllPairs-filter}
use Rattle.std.specs.declared.cmp.Ordering.{Ordering}
use Rattle.std.specs.declared.cmp.Ordering.TheVariants.{Less, Equal, Greater}
use Rattle.std.specs.Ordering.{is_eq, is_gt, is_lt, is_ne, ordering_reverse}
use Rattle.psm_value.specs.declared.datum.Datum.{Datum}
use Rattle.psm_table.specs.declared.definition.TableDef.{TableDef}
use Rattle.psm_table.specs.Key.{key_order, row_order, values_at}
use Rattle.psm_table.specs.Rows.{IsAscending, rows_above, rows_below}
use Rattle.psm_table.specs.Table.{Contents, IsTable, with_row}
use Rattle.psm_table.specs.Unique.{agree, clashes, conflict, has_null, is_rival, AreUnique}
use Rattle.psm_table.proofs.Filters.{filtered, filter-empty, greater_is, less_is, AllPairs-append, AllPairs-first, AllPairs-rest}
use Rattle.psm_table.proofs.KeyLaws.{key_order-total}
use Rattle.psm_table.proofs.Searches.{greater_after_equal, greater_after_greater}

-- a test that none of a list passes
none-first : {X : Type 0} (t : X → Bool) (x : X) (xs : List X) (b : Bool) → t x ≡ b → (b || list_any t xs) ≡ false → (list_any t xs ≡ false → All (λ y. t y ≡ false) xs) → All (λ y. t y ≡ false) (x ∷ xs)
none-first t x xs true e f h = cc
none-first t x xs false e f h = All-cons (λ y. t y ≡ false) x xs e (h f)

none-any : {X : Type 0} (t : X → Bool) (xs : List X) → list_any t xs ≡ false → All (λ x. t x ≡ false) xs
none-any t [] e = All-nil (λ x. t x ≡ false)
none-any t (x ∷ xs) e = none-first t x xs (t x) refl e (none-any t xs)

unequal : (o : Ordering) (b : Bool) → o ≡ Less → (is_ne o && b) ≡ false → b ≡ false
unequal o b e f = ap (λ p. is_ne p && b) (sym e) ∙ f

unequal_greater : (o : Ordering) (b : Bool) → o ≡ Greater → (is_ne o && b) ≡ false → b ≡ false
unequal_greater o b e f = ap (λ p. is_ne p && b) (sym e) ∙ f

turned_eq : (o : Ordering) → is_eq (ordering_reverse o) ≡ is_eq o
turned_eq Less = refl
turned_eq Equal = refl
turned_eq Greater = refl

turned_and : (a b c : Bool) → (not a && (not b && c)) ≡ (not b && (not a && c))
turned_and true true c = refl
turned_and true false c = refl
turned_and false true c = refl
turned_and false false c = refl

-- two rows agree whichever comes first
pub agree-turned : (a b : List Datum) (columns : List ℕ) → agree a b columns ≡ agree b a columns
agree-turned a b columns =
    let x = values_at columns a in
    let y = values_at columns b in
    ap (λ e. not (has_null x) && (not (has_null y) && e)) (ap is_eq (key_order-total.antisymm x y) ∙ turned_eq (key_order y x))
    ∙ turned_and (has_null x) (has_null y) (is_eq (key_order y x))

-- a row and one that has another key and is no rival don't agree
apart : (def : TableDef) (row other : List Datum) → row_order def.key (values_at def.key row) other ≡ Less → is_rival def row other ≡ false → All (λ c. agree other row c ≡ false) def.unique
apart def row other e f = none-any (agree other row) def.unique (unequal (row_order def.key (values_at def.key row) other) (conflict def other row) e f)

apart_greater : (def : TableDef) (row other : List Datum) → row_order def.key (values_at def.key row) other ≡ Greater → is_rival def row other ≡ false → All (λ c. agree other row c ≡ false) def.unique
apart_greater def row other e f = none-any (agree other row) def.unique (unequal_greater (row_order def.key (values_at def.key row) other) (conflict def other row) e f)

-- where no row clashes, no two agree
pub unique-none : (t : Contents) → IsTable t → All (λ row. clashes t.def row t.rows ≡ false) t.rows → AreUnique t.def t.rows
unique-none t h quiet n c within = λ i j d l m.
    let rivals : All (λ other. is_rival t.def (get_or t.rows j d) other ≡ false) t.rows = none-any (is_rival t.def (get_or t.rows j d)) t.rows (quiet j d m) in
    apart t.def (get_or t.rows j d) (get_or t.rows i d) (h.ascend i j d l m) (rivals i d (omega (arith, l, m))) n c within

-- the rows below a key, each before each of those above it
module _ (columns : List ℕ) (key : List Datum) (R : List Datum → List Datum → Type 0) where
  abbrev Ascends : List Datum → List Datum → Type 0
  Ascends a b = key_order (values_at columns a) (values_at columns b) ≡ Less

  later_none : (x : List Datum) (xs : List (List Datum)) (o : Ordering) → IsAscending columns (x ∷ xs) → row_order columns key x ≡ o → is_lt o ≡ false → rows_below columns key xs ≡ []
  later_none x xs Less up e f = cc
  later_none x xs Equal up e f =
      filter-empty (λ r. is_lt (row_order columns key r)) xs (λ k d l. ap is_lt (greater_after_equal (values_at columns x) (values_at columns (get_or xs k d)) key (AllPairs-first Ascends x xs up k d l) e))
  later_none x xs Greater up e f =
      filter-empty (λ r. is_lt (row_order columns key r)) xs (λ k d l. ap is_lt (greater_after_greater (values_at columns x) (values_at columns (get_or xs k d)) key (AllPairs-first Ascends x xs up k d l) e))

  across-step : (x : List Datum) (xs : List (List Datum)) (o : Ordering) → IsAscending columns (x ∷ xs) → AllPairs R (x ∷ xs) → row_order columns key x ≡ o
      → All (λ a. All (R a) (rows_above columns key xs)) (rows_below columns key xs)
      → All (λ a. All (R a) (cond (is_gt o) (x ∷ rows_above columns key xs) (rows_above columns key xs))) (cond (is_lt o) (x ∷ rows_below columns key xs) (rows_below columns key xs))
  across-step x xs Less up pairs e h =
      All-cons (λ a. All (R a) (rows_above columns key xs)) x (rows_below columns key xs) (All-filter (λ r. is_gt (row_order columns key r)) (R x) xs (AllPairs-first R x xs pairs)) h
  across-step x xs Equal up pairs e h = h
  across-step x xs Greater up pairs e h =
      subst (All (λ a. All (R a) (x ∷ rows_above columns key xs))) (sym (later_none x xs Greater up e refl)) (All-nil (λ a. All (R a) (x ∷ rows_above columns key xs)))

  pub across-rows : (rows : List (List Datum)) → IsAscending columns rows → AllPairs R rows → All (λ a. All (R a) (rows_above columns key rows)) (rows_below columns key rows)
  across-rows [] up pairs = All-nil (λ a. All (R a) [])
  across-rows (x ∷ xs) up pairs =
      across-step x xs (row_order columns key x) up pairs refl (across-rows xs (AllPairs-rest Ascends x xs up) (AllPairs-rest R x xs pairs))

-- a row that doesn't clash is put in
pub unique-kept : (t : Contents) (row : List Datum) → IsTable t → AreUnique t.def t.rows → clashes t.def row t.rows ≡ false → AreUnique t.def (with_row t row).rows
unique-kept t row h unique quiet n c within =
    let key = values_at t.def.key row in
    let columns = get_or t.def.unique n c in
    let R = λ (a b : List Datum). agree a b columns ≡ false in
    let low = rows_below t.def.key key t.rows in
    let high = rows_above t.def.key key t.rows in
    let pairs : AllPairs R t.rows = unique n c within in
    let rivals : All (λ other. is_rival t.def row other ≡ false) t.rows = none-any (is_rival t.def row) t.rows quiet in
    let less : All (λ r. row_order t.def.key key r ≡ Less) low = filtered (λ r. is_lt (row_order t.def.key key r)) (λ r. row_order t.def.key key r ≡ Less) (λ r e. less_is (row_order t.def.key key r) e) t.rows in
    let more : All (λ r. row_order t.def.key key r ≡ Greater) high = filtered (λ r. is_gt (row_order t.def.key key r)) (λ r. row_order t.def.key key r ≡ Greater) (λ r e. greater_is (row_order t.def.key key r) e) t.rows in
    let quiet_low = All-filter (λ r. is_lt (row_order t.def.key key r)) (λ other. is_rival t.def row other ≡ false) t.rows rivals in
    let quiet_high = All-filter (λ r. is_gt (row_order t.def.key key r)) (λ other. is_rival t.def row other ≡ false) t.rows rivals in
    AllPairs-append R low (row ∷ high) (AllPairs-filter R (λ r. is_lt (row_order t.def.key key r)) t.rows pairs)
    (AllPairs-cons R row high (λ k d l. agree-turned row (get_or high k d) columns ∙ apart_greater t.def row (get_or high k d) (more k d l) (quiet_high k d l) n c within)
    (AllPairs-filter R (λ r. is_gt (row_order t.def.key key r)) t.rows pairs))
    (λ k d l. All-cons (R (get_or low k d)) row high (apart t.def row (get_or low k d) (less k d l) (quiet_low k d l) n c within)
    (across-rows t.def.key key R t.rows h.ascend pairs k d l))
