-- FOREIGN KEY constraints that refer to a table, tested after its rows have changed by the values of those that went and came.
use Rattle.std.proofs.Common.{◌≡◌, ◌<◌, ◌+◌, ℕ, suc, List, [], ◌∷◌, ◌++◌, Bool, true, false, not, ◌&&◌, ◌||◌, get_or, set, take, length, arith, refl, ap, sym, subst, ◌∙◌, inl, inr, Option, Some, None}
use Rattle.std.specs.Prelude.{◌≢◌, All, IsSome, cond, find, map, slice_set, if◌then◌else◌}
use Rattle.std.specs.List.{cons_option, list_all, list_any}
use Rattle.std.specs.Ordering.{is_eq, is_gt, is_lt, ordering_reverse}
use Rattle.std.specs.declared.cmp.Ordering.{Ordering}
use Rattle.std.specs.declared.cmp.Ordering.TheVariants.{Less, Equal, Greater}
use Rattle.std.proofs.Math.Seq.{take-suc}
use Rattle.std.proofs.lemmas.Bool.{and_right}
use Rattle.std.proofs.lemmas.Bool.Decides.{eqb_tells}
use Rattle.std.proofs.lemmas.List.{get_or-set_other, get_or-set_same, map-append}
use Rattle.std.proofs.lemmas.List.Elements.{All-head, All-tail}
use Rattle.std.proofs.lemmas.List.Folds.{list_all-append, list_all-map, list_any-append}
use Rattle.psm_value.specs.declared.datum.Datum.{Datum}
use Rattle.psm_value.specs.declared.datum.Datum.TheVariants.{Null, Num, Text}
use Rattle.psm_table.specs.declared.definition.ForeignKey.{ForeignKey}
use Rattle.psm_table.specs.Changing.{in_order}
use Rattle.psm_table.specs.Key.{key_order, row_order, values_at}
use Rattle.psm_table.specs.Keyed.{has_values, is_keyed, is_referred, rows_at}
use Rattle.psm_table.specs.Definition.{IsRow}
use Rattle.psm_table.specs.Rows.{row_with, rows_above, rows_below, without, IsAscending}
use Rattle.psm_table.specs.Table.{namesake, Contents, IsTable}
use Rattle.psm_table.specs.Unique.{equal_values, has_null, is_null}
use Rattle.psm_table.proofs.Filters.{equal_is, find_passes, AllPairs-rest}
use Rattle.psm_table.proofs.KeyLaws.{key_order-total}
use Rattle.psm_table.proofs.Keying.{any-in_order}
use Rattle.psm_table.proofs.Rules.{all-in_order, both, first_true, second_true}
use Rattle.psm_table.proofs.Undo.{after_equal}
use Rattle.psm_row_changes.specs.KeyTests.{by_values, found_in, is_found, is_there, values_new}
use Rattle.psm_row_changes.specs.Rows.{keys_of_rows, without_all, without_keys, AreInPlace}
use Rattle.psm_row_changes.proofs.Leftover.{all-left}

abbrev Row : Type 0
Row = List Datum

-- ---- tests of lists

iff : (a b : Bool) → (a ≡ true → b ≡ true) → (b ≡ true → a ≡ true) → a ≡ b
iff true true f g = refl
iff true false f g = sym (f refl)
iff false true f g = g refl
iff false false f g = refl

or_true : (a b : Bool) → b ≡ true → (a || b) ≡ true
or_true true b e = refl
or_true false b e = e

or_false : (a b : Bool) → a ≡ false → b ≡ false → (a || b) ≡ false
or_false false b e f = f
or_false true b e f = cc

module _ {X : Type 0} where
  -- one that passes a test passes another that all pass
  one_of_all : (f h : X → Bool) (xs : List X) → list_any f xs ≡ true → list_all h xs ≡ true → (x : X) × (f x ≡ true) × (h x ≡ true)
  one_of_all f h [] e g = absurd (cc)
  one_of_all f h (x ∷ xs) e g = by (f x) refl e (λ k. one_of_all f h xs k (second_true (h x) (list_all h xs) g)) where
    by : (b : Bool) → f x ≡ b → (b || list_any f xs) ≡ true → (list_any f xs ≡ true → (y : X) × (f y ≡ true) × (h y ≡ true)) → (y : X) × (f y ≡ true) × (h y ≡ true)
    by true i k rest = (x, i, first_true (h x) (list_all h xs) g)
    by false i k rest = rest k

  -- a test that follows from another where all pass that
  pub all_so : (p q : X → Bool) → ((x : X) → p x ≡ true → q x ≡ true) → (xs : List X) → list_all p xs ≡ true → list_all q xs ≡ true
  all_so p q h [] e = refl
  all_so p q h (x ∷ xs) e = both (q x) (list_all q xs) (h x (first_true (p x) (list_all p xs) e)) (all_so p q h xs (second_true (p x) (list_all p xs) e))

  -- the same of each of them, of which is known that it is one
  abbrev IsOneOf : List X → X → Type 0
  IsOneOf xs x = (f : X → Bool) → f x ≡ true → list_any f xs ≡ true

  each_so : (p q : X → Bool) (all : List X) → ((x : X) → IsOneOf all x → p x ≡ true → q x ≡ true) → (xs : List X) → ((f : X → Bool) → list_any f xs ≡ true → list_any f all ≡ true) → list_all p xs ≡ true → list_all q xs ≡ true
  each_so p q all h [] more e = refl
  each_so p q all h (x ∷ xs) more e =
      both (q x) (list_all q xs) (h x (λ f i. more f (ap (λ b. b || list_any f xs) i)) (first_true (p x) (list_all p xs) e))
      (each_so p q all h xs (λ f i. more f (or_true (f x) (list_any f xs) i)) (second_true (p x) (list_all p xs) e))

  pub all_of : (p q : X → Bool) (xs : List X) → ((x : X) → IsOneOf xs x → p x ≡ true → q x ≡ true) → list_all p xs ≡ true → list_all q xs ≡ true
  all_of p q xs h e = each_so p q xs h xs (λ f i. i) e

  none_all : (f : X → Bool) (xs : List X) → list_any f xs ≡ false → list_all (λ x. not (f x)) xs ≡ true
  none_all f [] e = refl
  none_all f (x ∷ xs) e = by (f x) e (none_all f xs) where
    by : (b : Bool) → (b || list_any f xs) ≡ false → (list_any f xs ≡ false → list_all (λ y. not (f y)) xs ≡ true) → (not b && list_all (λ y. not (f y)) xs) ≡ true
    by true i rest = cc
    by false i rest = rest i

  all_none : (f : X → Bool) (xs : List X) → list_all (λ x. not (f x)) xs ≡ true → list_any f xs ≡ false
  all_none f [] e = refl
  all_none f (x ∷ xs) e = by (f x) e (all_none f xs) where
    by : (b : Bool) → (not b && list_all (λ y. not (f y)) xs) ≡ true → (list_all (λ y. not (f y)) xs ≡ true → list_any f xs ≡ false) → (b || list_any f xs) ≡ false
    by true i rest = cc
    by false i rest = rest i

-- ---- equal values

not_both : (a b : Bool) → (not a && b) ≡ true → a ≡ false
not_both true b e = cc
not_both false b e = refl

turned_eq : (o : Ordering) → is_eq (ordering_reverse o) ≡ is_eq o
turned_eq Less = refl
turned_eq Equal = refl
turned_eq Greater = refl

swapped : (a b c : Bool) → (not a && (not b && c)) ≡ (not b && (not a && c))
swapped true true c = refl
swapped true false c = refl
swapped false true c = refl
swapped false false c = refl

pub equal-turned : (a b : List Datum) → equal_values a b ≡ equal_values b a
equal-turned a b = swapped (has_null a) (has_null b) (is_eq (key_order a b)) ∙ ap (λ x. not (has_null b) && (not (has_null a) && x)) (ap is_eq (key_order-total.antisymm a b) ∙ turned_eq (key_order b a))

module _ (a b : List Datum) (same : equal_values a b ≡ true) where
  pub first_filled : has_null a ≡ false
  first_filled = not_both (has_null a) (not (has_null b) && is_eq (key_order a b)) same

  pub second_filled : has_null b ≡ false
  second_filled = not_both (has_null b) (is_eq (key_order a b)) (second_true (not (has_null a)) (not (has_null b) && is_eq (key_order a b)) same)

  ordered : key_order a b ≡ Equal
  ordered = equal_is (key_order a b) (second_true (not (has_null b)) (is_eq (key_order a b)) (second_true (not (has_null a)) (not (has_null b) && is_eq (key_order a b)) same))

  -- what equals the one equals the other
  pub equal_alike : (v : List Datum) → equal_values a v ≡ equal_values b v
  equal_alike v =
      ap (λ x. not x && (not (has_null v) && is_eq (key_order a v))) (first_filled ∙ sym second_filled)
      ∙ ap (λ x. not (has_null b) && (not (has_null v) && x))
      (ap is_eq (key_order-total.congr a b v ordered))

  pub has_alike : (columns : List ℕ) (rows : List Row) → has_values columns a rows ≡ has_values columns b rows
  has_alike columns [] = refl
  has_alike columns (row ∷ rows) = ap (λ x. x || has_values columns a rows) (equal_alike (values_at columns row)) ∙ ap (λ x. equal_values b (values_at columns row) || x) (has_alike columns rows)

-- ---- the rows of keys

module _ (columns : List ℕ) where
  abbrev has : List Datum → Row → Bool
  has key row = is_eq (row_order columns key row)

  abbrev has_one : List (List Datum) → Row → Bool
  has_one keys row = list_any (λ key. has key row) keys

  -- a row that is taken out by a key has it
  out_step : (p q : Row → Bool) (key : List Datum) → ((row : Row) → has key row ≡ true → q row ≡ true) → ((row : Row) → p row ≡ true → q row ≡ true) → (rows : List Row)
      → list_all p (rows_below columns key rows) ≡ true → list_all p (rows_above columns key rows) ≡ true → list_all q rows ≡ true
  out_step p q key f g [] h k = refl
  out_step p q key f g (row ∷ rows) h k = by (row_order columns key row) refl h k (out_step p q key f g rows) where
    by : (o : Ordering) → row_order columns key row ≡ o → list_all p (cond (is_lt o) (row ∷ rows_below columns key rows) (rows_below columns key rows)) ≡ true
        → list_all p (cond (is_gt o) (row ∷ rows_above columns key rows) (rows_above columns key rows)) ≡ true
        → (list_all p (rows_below columns key rows) ≡ true → list_all p (rows_above columns key rows) ≡ true → list_all q rows ≡ true) → list_all q (row ∷ rows) ≡ true
    by Less e i j rest = both (q row) (list_all q rows) (g row (first_true (p row) (list_all p (rows_below columns key rows)) i)) (rest (second_true (p row) (list_all p (rows_below columns key rows)) i) j)
    by Equal e i j rest = both (q row) (list_all q rows) (f row (ap is_eq e)) (rest i j)
    by Greater e i j rest = both (q row) (list_all q rows) (g row (first_true (p row) (list_all p (rows_above columns key rows)) j)) (rest i (second_true (p row) (list_all p (rows_above columns key rows)) j))

  left_or_out : (p : Row → Bool) (keys : List (List Datum)) (rows : List Row) → list_all p (without_all columns keys rows) ≡ true → list_all (λ row. has_one keys row || p row) rows ≡ true
  left_or_out p [] rows h = h
  left_or_out p (key ∷ keys) rows h =
      let rest : list_all (λ row. has_one keys row || p row) (without columns key rows) ≡ true = left_or_out p keys (without columns key rows) h in
      let parts = list_all-append (λ row. has_one keys row || p row) (rows_below columns key rows) (rows_above columns key rows) in
      out_step (λ row. has_one keys row || p row) (λ row. has_one (key ∷ keys) row || p row) key (λ row e. ap (λ b. (b || has_one keys row) || p row) e) (λ row e. later (has key row) (has_one keys row) (p row) e) rows
      (first_true (list_all (λ row. has_one keys row || p row) (rows_below columns key rows)) (list_all (λ row. has_one keys row || p row) (rows_above columns key rows)) (sym parts ∙ rest))
      (second_true (list_all (λ row. has_one keys row || p row) (rows_below columns key rows)) (list_all (λ row. has_one keys row || p row) (rows_above columns key rows)) (sym parts ∙ rest))
    where
      later : (a b c : Bool) → (b || c) ≡ true → ((a || b) || c) ≡ true
      later true b c e = refl
      later false b c e = e

  abbrev Rises : Row → Row → Type 0
  Rises a b = key_order (values_at columns a) (values_at columns b) ≡ Less

  none_has : (p : Row → Bool) (key : List Datum) (rows : List Row) → All (λ row. row_order columns key row ≡ Greater) rows → list_all (λ row. not (has key row) || p row) rows ≡ true
  none_has p key [] h = refl
  none_has p key (row ∷ rows) h =
      both (not (has key row) || p row) (list_all (λ r. not (has key r) || p r) rows) (ap (λ o. not (is_eq o) || p row) (All-head (λ r. row_order columns key r ≡ Greater) row rows h))
      (none_has p key rows (All-tail (λ r. row_order columns key r ≡ Greater) row rows h))

  -- of rows in order the one that is found is the only one that has the key
  only_one : (p : Row → Bool) (key : List Datum) (rows : List Row) → IsAscending columns rows → ((row : Row) → row_with columns key rows ≡ Some row → p row ≡ true) → list_all (λ row. not (has key row) || p row) rows ≡ true
  only_one p key [] up h = refl
  only_one p key (row ∷ rows) up h = by (row_order columns key row) refl h (only_one p key rows (AllPairs-rest Rises row rows up)) where
    by : (o : Ordering) → row_order columns key row ≡ o → ((x : Row) → cond (is_eq o) (Some row) (row_with columns key rows) ≡ Some x → p x ≡ true)
        → (((x : Row) → row_with columns key rows ≡ Some x → p x ≡ true) → list_all (λ r. not (has key r) || p r) rows ≡ true) → ((not (is_eq o) || p row) && list_all (λ r. not (has key r) || p r) rows) ≡ true
    by Less e f rest = rest f
    by Equal e f rest = both (p row) (list_all (λ r. not (has key r) || p r) rows) (f row refl) (none_has p key rows (after_equal columns key row rows up e))
    by Greater e f rest = rest f

  one_or_more : (p : Row → Bool) (a b : Bool) (row : Row) → (not a || p row) ≡ true → (not b || p row) ≡ true → (not (a || b) || p row) ≡ true
  one_or_more p true b row e f = e
  one_or_more p false b row e f = f

  and_all : (p q r : Row → Bool) → ((row : Row) → p row ≡ true → q row ≡ true → r row ≡ true) → (rows : List Row) → list_all p rows ≡ true → list_all q rows ≡ true → list_all r rows ≡ true
  and_all p q r h [] e f = refl
  and_all p q r h (row ∷ rows) e f =
      both (r row) (list_all r rows) (h row (first_true (p row) (list_all p rows) e) (first_true (q row) (list_all q rows) f))
      (and_all p q r h rows (second_true (p row) (list_all p rows) e) (second_true (q row) (list_all q rows) f))

  found_step : (p : Row → Bool) (o : Option Row) (rows : List Row) → list_all p (cons_option o rows) ≡ true → ((row : Row) → o ≡ Some row → p row ≡ true) × (list_all p rows ≡ true)
  found_step p None rows e = (λ row f. cc, e)
  found_step p (Some x) rows e = (λ row f. let same : x ≡ row = cc in ap p (sym same) ∙ first_true (p x) (list_all p rows) e, second_true (p x) (list_all p rows) e)

  found_pass : (p : Row → Bool) (keys : List (List Datum)) (rows : List Row) → IsAscending columns rows → list_all p (found_in columns rows keys) ≡ true → list_all (λ row. not (has_one keys row) || p row) rows ≡ true
  found_pass p [] rows up e = all_true rows where
    all_true : (xs : List Row) → list_all (λ row. true) xs ≡ true
    all_true [] = refl
    all_true (x ∷ xs) = all_true xs
  found_pass p (key ∷ keys) rows up e =
      let parts = found_step p (row_with columns key rows) (found_in columns rows keys) e in
      and_all (λ row. not (has key row) || p row) (λ row. not (has_one keys row) || p row) (λ row. not (has_one (key ∷ keys) row) || p row)
      (λ row f g. one_or_more p (has key row) (has_one keys row) row f g) rows (only_one p key rows up parts.0) (found_pass p keys rows up parts.1)

  -- each row is left or is one of those found
  pub left_or_found : (p : Row → Bool) (keys : List (List Datum)) (rows : List Row) → IsAscending columns rows → list_all p (without_all columns keys rows) ≡ true → list_all p (found_in columns rows keys) ≡ true → list_all p rows ≡ true
  left_or_found p keys rows up e f =
      and_all (λ row. has_one keys row || p row) (λ row. not (has_one keys row) || p row) p (λ row g h. by (has_one keys row) (p row) g h) rows (left_or_out p keys rows e) (found_pass p keys rows up f)
    where
      by : (a b : Bool) → (a || b) ≡ true → (not a || b) ≡ true → b ≡ true
      by true b g h = h
      by false b g h = g

  find_step : (p q : Row → Bool) (x : Row) (rows : List Row) → list_all p rows ≡ true → find q rows ≡ Some x → p x ≡ true
  find_step p q x [] e f = cc
  find_step p q x (row ∷ rows) e f = by (q row) f (find_step p q x rows (second_true (p row) (list_all p rows) e)) where
    by : (b : Bool) → cond b (Some row) (find q rows) ≡ Some x → (find q rows ≡ Some x → p x ≡ true) → p x ≡ true
    by true g rest = let same : row ≡ x = cc in ap p (sym same) ∙ first_true (p row) (list_all p rows) e
    by false g rest = rest g

  -- and each that is found is one of them
  pub found_within : (p : Row → Bool) (keys : List (List Datum)) (rows : List Row) → list_all p rows ≡ true → list_all p (found_in columns rows keys) ≡ true
  found_within p [] rows e = refl
  found_within p (key ∷ keys) rows e = by (row_with columns key rows) refl (found_within p keys rows e) where
    by : (o : Option Row) → row_with columns key rows ≡ o → list_all p (found_in columns rows keys) ≡ true → list_all p (cons_option o (found_in columns rows keys)) ≡ true
    by None f rest = rest
    by (Some x) f rest = both (p x) (list_all p (found_in columns rows keys)) (find_step p (has key) x rows e f) rest

found-append : (columns : List ℕ) (rows : List Row) (xs ys : List (List Datum)) → found_in columns rows (xs ++ ys) ≡ found_in columns rows xs ++ found_in columns rows ys
found-append columns rows [] ys = refl
found-append columns rows (x ∷ xs) ys = by (row_with columns x rows) (found-append columns rows xs ys) where
  by : (o : Option Row) → found_in columns rows (xs ++ ys) ≡ found_in columns rows xs ++ found_in columns rows ys → cons_option o (found_in columns rows (xs ++ ys)) ≡ cons_option o (found_in columns rows xs) ++ found_in columns rows ys
  by None e = e
  by (Some row) e = ap (λ l. row ∷ l) e

-- the values of one more of them
pub found_more : (columns target : List ℕ) (rows : List Row) (keys : List (List Datum)) (i : ℕ) (key : List Datum) (done more : List (List Datum)) → i < length keys → key ≡ get_or keys i key
    → done ≡ map (values_at target) (found_in columns rows (take i keys)) → more ≡ done ++ map (values_at target) (found_in columns rows (key ∷ [])) → more ≡ map (values_at target) (found_in columns rows (take (i + 1) keys))
found_more columns target rows keys i key done more l e d m =
    let later : i + 1 ≡ suc i = omega arith in
    let longer : take (i + 1) keys ≡ take i keys ++ key ∷ [] = ap (λ k. take k keys) later ∙ take-suc keys i key l ∙ ap (λ k. take i keys ++ k ∷ []) (sym e) in
    m ∙ ap (λ x. x ++ map (values_at target) (found_in columns rows (key ∷ []))) d
    ∙ sym (map-append (values_at target) (found_in columns rows (take i keys)) (found_in columns rows (key ∷ [])))
    ∙ ap (map (values_at target)) (sym (found-append columns rows (take i keys) (key ∷ [])) ∙ sym (ap (found_in columns rows) longer))

-- one of the rows is one of those that are left or of those that are found
any_parts : (columns : List ℕ) (f : Row → Bool) (keys : List (List Datum)) (rows : List Row) → IsAscending columns rows → list_any f rows ≡ (list_any f (without_all columns keys rows) || list_any f (found_in columns rows keys))
any_parts columns f keys rows up = by (list_any f rows) (list_any f (without_all columns keys rows)) (list_any f (found_in columns rows keys)) refl refl refl where
  by : (a b d : Bool) → list_any f rows ≡ a → list_any f (without_all columns keys rows) ≡ b → list_any f (found_in columns rows keys) ≡ d → a ≡ (b || d)
  by true true d h i j = refl
  by true false true h i j = refl
  by true false false h i j =
      let none : list_any f rows ≡ false = all_none f rows (left_or_found columns (λ r. not (f r)) keys rows up (none_all f (without_all columns keys rows) i) (none_all f (found_in columns rows keys) j)) in
      sym h ∙ none
  by false b d h i j =
      let none = none_all f rows h in
      let left_none : b ≡ false = sym i ∙ all_none f (without_all columns keys rows) (all-left (λ r. not (f r)) columns keys rows none) in
      let found_none : d ≡ false = sym j ∙ all_none f (found_in columns rows keys) (found_within columns (λ r. not (f r)) keys rows none) in
      sym (or_false b d left_none found_none)

-- ---- rows in the places of those that had their keys

no_null : (d : Datum) → (d ≡ Null → ⊥) → is_null d ≡ false
no_null Null h = absurd (h refl)
no_null (Num n) h = refl
no_null (Text t) h = refl

all_filled : (values : List Datum) → All (λ (d : Datum). d ≡ Null → ⊥) values → has_null values ≡ false
all_filled [] h = refl
all_filled (d ∷ ds) h = or_false (is_null d) (has_null ds) (no_null d (All-head (λ (d : Datum). d ≡ Null → ⊥) d ds h)) (all_filled ds (All-tail (λ (d : Datum). d ≡ Null → ⊥) d ds h))

one_is : (P : Row → Type 0) (q : Row → Bool) (x : Row) (rows : List Row) → All P rows → find q rows ≡ Some x → P x
one_is P q x [] h e = absurd (cc)
one_is P q x (row ∷ rows) h e = by (q row) e (one_is P q x rows (All-tail P row rows h)) where
  by : (b : Bool) → cond b (Some row) (find q rows) ≡ Some x → (find q rows ≡ Some x → P x) → P x
  by true g rest = let same : row ≡ x = cc in subst P same (All-head P row rows h)
  by false g rest = rest g

module _ (c : Contents) (table : IsTable c) (v : List Datum) where
  abbrev equals : Row → Bool
  equals row = equal_values v (values_at c.def.key row)

  -- a row and the one that has its key
  same_key : (row g : Row) → IsRow c.def row → row_with c.def.key (values_at c.def.key row) c.rows ≡ Some g → equals row ≡ equals g
  same_key row g h e =
      let a : List Datum = values_at c.def.key row in
      let b : List Datum = values_at c.def.key g in
      let order : key_order b a ≡ Equal = equal_is (row_order c.def.key a g) (find_passes (λ r. is_eq (row_order c.def.key a r)) c.rows g e) in
      let filled : has_null b ≡ false = all_filled b (one_is (IsRow c.def) (λ r. is_eq (row_order c.def.key a r)) g c.rows table.fit e).filled in
      let same : equal_values b a ≡ true = ap (λ x. not x && (not (has_null a) && is_eq (key_order b a))) filled ∙ ap (λ x. not x && is_eq (key_order b a)) (all_filled a h.filled) ∙ ap is_eq order in
      equal-turned v a ∙ sym (equal_alike b a same v) ∙ equal-turned b v

  found_same : (rows : List Row) → All (IsRow c.def) rows → All (λ row. IsSome (namesake c row)) rows → list_any equals rows ≡ list_any equals (found_in c.def.key c.rows (keys_of_rows c.def rows))
  found_same [] h n = refl
  found_same (row ∷ rows) h n = by (namesake c row) refl (All-head (λ r. IsSome (namesake c r)) row rows n) (found_same rows (All-tail (IsRow c.def) row rows h) (All-tail (λ r. IsSome (namesake c r)) row rows n)) where
    by : (o : Option Row) → namesake c row ≡ o → IsSome o → list_any equals rows ≡ list_any equals (found_in c.def.key c.rows (keys_of_rows c.def rows)) → (equals row || list_any equals rows) ≡ list_any equals (cons_option o (found_in c.def.key c.rows (keys_of_rows c.def rows)))
    by None e i rest = absurd (cc)
    by (Some g) e i rest = ap (λ x. x || list_any equals rows) (same_key row g (All-head (IsRow c.def) row rows h) e) ∙ ap (λ x. equals g || x) rest

-- the keys of the rows stay
pub keys_stay : (c : Contents) (rows : List Row) → IsTable c → AreInPlace c rows → (v : List Datum) → has_values c.def.key v (in_order c.def.key ((without_keys (keys_of_rows c.def rows) c).rows ++ rows)) ≡ has_values c.def.key v c.rows
keys_stay c rows table places v =
    let f : Row → Bool = equals c table v in
    let keys : List (List Datum) = keys_of_rows c.def rows in
    any-in_order c.def.key f ((without_keys keys c).rows ++ rows)
    ∙ list_any-append f (without_keys keys c).rows rows
    ∙ ap (λ x. list_any f (without_keys keys c).rows || x) (found_same c table v rows places.fit places.named)
    ∙ sym (any_parts c.def.key f keys c.rows table.ascend)

-- ---- a constraint that refers to the table

module _ (key : ForeignKey) (all left new gone refer was : List Row) (held : list_all (λ row. is_referred key.columns key.target was row || is_referred key.columns key.target all row) refer ≡ true)
    (among : (p : Row → Bool) → list_all p all ≡ (list_all p left && list_all p new)) (cover : (p : Row → Bool) → list_all p left ≡ true → list_all p gone ≡ true → list_all p was ≡ true) where
  abbrev finds : Row → Bool
  finds g = let v : List Datum = values_at key.target g in (has_null v || has_values key.target v all) || not (has_values key.columns v refer)

  -- the rows that refer still do where those that went are found
  still_refers : list_all finds gone ≡ true → (row : Row) → ((f : Row → Bool) → f row ≡ true → list_any f refer ≡ true) → (is_referred key.columns key.target was row || is_referred key.columns key.target all row) ≡ true → is_referred key.columns key.target all row ≡ true
  still_refers found row member e = by (has_null (values_at key.columns row)) (has_values key.target (values_at key.columns row) all) refl refl e where
    v : List Datum
    v = values_at key.columns row

    alike : Row → Bool
    alike q = equal_values v (values_at key.target q)

    lost : has_values key.target v all ≡ false → (g : Row) → finds g ≡ true → not (alike g) ≡ true
    lost n g f = step (alike g) refl where
      step : (b : Bool) → alike g ≡ b → not b ≡ true
      step false i = refl
      step true i =
          let w : List Datum = values_at key.target g in
          let filled : has_null w ≡ false = second_filled v w i in
          let none : has_values key.target w all ≡ false = sym (has_alike v w i key.target all) ∙ n in
          let there : has_values key.columns w refer ≡ true = member (λ r. equal_values w (values_at key.columns r)) (sym (equal-turned v w) ∙ i) in
          let bad : finds g ≡ false = ap (λ x. (x || has_values key.target w all) || not (has_values key.columns w refer)) filled ∙ ap (λ x. x || not (has_values key.columns w refer)) none ∙ ap not there in
          let worse : true ≡ false = sym f ∙ bad in cc

    by : (n h : Bool) → has_null v ≡ n → has_values key.target v all ≡ h → ((n || has_values key.target v was) || (n || h)) ≡ true → (n || h) ≡ true
    by true h i j k = refl
    by false true i j k = refl
    by false false i j k =
        let left_none : list_all (λ q. not (alike q)) left ≡ true = first_true (list_all (λ q. not (alike q)) left) (list_all (λ q. not (alike q)) new) (sym (among (λ q. not (alike q))) ∙ none_all alike all j) in
        let gone_none : list_all (λ q. not (alike q)) gone ≡ true = all_so finds (λ q. not (alike q)) (lost j) gone found in
        let was_none : has_values key.target v was ≡ false = all_none alike was (cover (λ q. not (alike q)) left_none gone_none) in
        let bad : true ≡ false = sym k ∙ ap (λ x. x || false) was_none in cc

  -- and where they do, those that went are found
  then_found : list_all (is_referred key.columns key.target all) refer ≡ true → (g : Row) → finds g ≡ true
  then_found refers g = by (has_null v) (has_values key.columns v refer) refl refl where
    v : List Datum
    v = values_at key.target g

    by : (n h : Bool) → has_null v ≡ n → has_values key.columns v refer ≡ h → ((n || has_values key.target v all) || not h) ≡ true
    by true h i j = refl
    by false false i j = or_true (has_values key.target v all) true refl
    by false true i j =
        let one = one_of_all (λ r. equal_values v (values_at key.columns r)) (is_referred key.columns key.target all) refer j refers in
        let w : List Datum = values_at key.columns one.0 in
        let filled : has_null w ≡ false = second_filled v w one.1 in
        let there : has_values key.target w all ≡ true = ap (λ x. x || has_values key.target w all) (sym filled) ∙ one.2 in
        ap (λ x. x || false) (has_alike v w one.1 key.target all ∙ there)

  all_found : list_all (is_referred key.columns key.target all) refer ≡ true → (rows : List Row) → list_all finds rows ≡ true
  all_found refers [] = refl
  all_found refers (g ∷ gs) = both (finds g) (list_all finds gs) (then_found refers g) (all_found refers gs)

  pub refers_by_values : list_all (is_referred key.columns key.target all) refer ≡ list_all finds gone
  refers_by_values =
      iff (list_all (is_referred key.columns key.target all) refer) (list_all finds gone) (λ e. all_found e gone)
      (λ e. all_of (λ row. is_referred key.columns key.target was row || is_referred key.columns key.target all row) (is_referred key.columns key.target all) refer (still_refers e) held)

-- ---- after a statement

or_first : (a b : Bool) → a ≡ true → (a || b) ≡ true
or_first true b e = refl
or_first false b e = cc

module _ (tables : List (List Row)) (t : ℕ) (columns : List ℕ) (left new gone : List Row) (here : t < length tables)
    (stay : (p : Row → Bool) → list_all p (rows_at tables t) ≡ true → list_all p left ≡ true)
    (cover : (p : Row → Bool) → list_all p left ≡ true → list_all p gone ≡ true → list_all p (rows_at tables t) ≡ true) where
  abbrev was : List Row
  was = rows_at tables t

  abbrev now : List Row
  now = in_order columns (left ++ new)

  abbrev after : List (List Row)
  after = slice_set tables t now

  in_place : (n : ℕ) → n ≡ t → rows_at after n ≡ now
  in_place n e = ap (λ k. get_or (set tables t now) k []) e ∙ get_or-set_same tables t now [] here

  other_place : (n : ℕ) → n ≢ t → rows_at after n ≡ rows_at tables n
  other_place n e = get_or-set_other tables t n now [] e

  among : (p : Row → Bool) → list_all p now ≡ (list_all p left && list_all p new)
  among p = all-in_order columns p (left ++ new) ∙ list_all-append p left new

  module _ (key : ForeignKey) (to : key.to ≡ t) (held : is_keyed tables key ≡ true) where
    abbrev refers : List Row → Row → Bool
    refers others = is_referred key.columns key.target others

    abbrev finds_by : List Row → Row → Bool
    finds_by refer g = let v : List Datum = values_at key.target g in (has_null v || has_values key.target v now) || not (has_values key.columns v refer)

    held_from : list_all (refers was) (rows_at tables key.from) ≡ true
    held_from = ap (λ n. list_all (refers (rows_at tables n)) (rows_at tables key.from)) (sym to) ∙ held

    abbrev either : Row → Bool
    either row = refers was row || refers now row

    -- what was said of the rows by name is said of the tables
    named : (refer : List Row) → rows_at after key.from ≡ refer → list_all (finds_by refer) gone ≡ list_all (is_found key after) (map (values_at key.target) gone)
    named refer e =
        sym (list_all-map (is_found key after) (values_at key.target) gone
        ∙ ap (λ (l : List Row). list_all (λ g. let v : List Datum = values_at key.target g in (has_null v || has_values key.target v l) || not (has_values key.columns v (rows_at after key.from))) gone) (in_place key.to to)
        ∙ ap (λ (l : List Row). list_all (finds_by l) gone) e)

    news : list_all (refers now) new ≡ list_all (is_there key after) (map (values_at key.columns) new)
    news =
        ap (λ (l : List Row). list_all (refers l) new) (sym (in_place key.to to))
        ∙ sym (list_all-map (is_there key after) (values_at key.columns) new)

    own_step : key.from ≡ t → (b : Bool) → list_all (refers now) new ≡ b → list_all (refers now) now ≡ (b && list_all (finds_by now) gone)
    own_step from true e =
        let left_held : list_all (refers was) left ≡ true = stay (refers was) (ap (λ n. list_all (refers was) (rows_at tables n)) (sym from) ∙ held_from) in
        refers_by_values key now left new gone now was
        (among either ∙ ap (λ b. b && list_all either new) (all_so (refers was) either (λ row i. or_first (refers was row) (refers now row) i) left left_held)
        ∙ all_so (refers now) either (λ row i. or_true (refers was row) (refers now row) i) new e)
        among cover
    own_step from false e = among (refers now) ∙ ap (λ b. list_all (refers now) left && b) e ∙ and_right (list_all (refers now) left) false refl

    pub keyed_by_values : is_keyed after key ≡ by_values after key (record { refer = values_new t key new; gone = map (values_at key.target) gone })
    keyed_by_values =
        elim (eqb_tells key.from t) as (λ _. is_keyed after key ≡ by_values after key (record { refer = values_new t key new; gone = map (values_at key.target) gone })) [
          | inl p ↦ ap (λ (l : List Row). list_all (refers l) (rows_at after key.from)) (in_place key.to to) ∙ ap (list_all (refers now)) (in_place key.from p.1)
              ∙ own_step p.1 (list_all (refers now) new) refl
              ∙ ap (λ b. b && list_all (finds_by now) gone) news
              ∙ ap (λ b. list_all (is_there key after) (map (values_at key.columns) new) && b) (named now (in_place key.from p.1))
              ∙ sym (ap (λ b. by_values after key (record { refer = if b then map (values_at key.columns) new else []; gone = map (values_at key.target) gone })) p.0)
          | inr p ↦ ap (λ (l : List Row). list_all (refers l) (rows_at after key.from)) (in_place key.to to) ∙ ap (list_all (refers now)) (other_place key.from p.1)
              ∙ refers_by_values key now left new gone (rows_at tables key.from) was
              (all_so (refers was) either (λ row i. or_first (refers was row) (refers now row) i) (rows_at tables key.from) held_from) among cover
              ∙ named (rows_at tables key.from) (other_place key.from p.1)
              ∙ sym (ap (λ b. by_values after key (record { refer = if b then map (values_at key.columns) new else []; gone = map (values_at key.target) gone })) p.0)
        ]
