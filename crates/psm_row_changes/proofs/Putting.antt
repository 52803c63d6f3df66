-- Rows that are put into a table one after another, and the rules of all of them.
use Rattle.std.proofs.Common.{◌≡◌, ℕ, ◌+◌, ◌≤◌, List, [], ◌∷◌, ◌++◌, length, length-append, append_assoc, Bool, true, false, ◌&&◌, ◌||◌, refl, ap, sym, ◌∙◌, arith, Option, Some, None}
use Rattle.std.specs.Prelude.{cond, not}
use Rattle.std.specs.Ordering.{is_eq, is_gt, is_lt, is_ne}
use Rattle.std.specs.declared.cmp.Ordering.{Ordering}
use Rattle.std.specs.declared.cmp.Ordering.TheVariants.{Less, Equal, Greater}
use Rattle.std.proofs.lemmas.List.{append-nil}
use Rattle.psm_value.specs.declared.datum.Datum.{Datum}
use Rattle.psm_table.specs.declared.definition.TableDef.{TableDef}
use Rattle.psm_table.specs.Changing.{are_apart, in_order, is_filled, keep_rules}
use Rattle.psm_table.specs.Key.{row_order, values_at}
use Rattle.psm_table.specs.Rows.{put, row_with, rows_above, rows_below, without, IsAscending}
use Rattle.psm_table.specs.Table.{with_row, Contents}
use Rattle.psm_table.specs.Unique.{clashes, conflict, is_rival}
use Rattle.psm_table.proofs.Ordered.{in_order-last, placed_after, put-put_in}
use Rattle.psm_table.proofs.Rules.{all-in_order, and_assoc, apart_from, keep-front, keep-new, second_true}
use Rattle.psm_table.proofs.Tables.{ascending-put}
use Rattle.psm_row_changes.specs.Rows.{fit_in, fits_in, with_rows}

abbrev Row : Type 0
Row = List Datum

-- ---- one row beside the others

module _ (def : TableDef) (row : Row) where
  abbrev key : List Datum
  key = values_at def.key row

  apart_step : (o : Ordering) (c rest : Bool) (x : Row) (r : Option Row) → cond (is_eq o) (Some x) r ≡ None → ((is_ne o && c) || rest) ≡ false → (not (is_eq o) && not c) ≡ true
  apart_step Less true rest x r n f = cc
  apart_step Less false rest x r n f = refl
  apart_step Equal c rest x r n f = cc
  apart_step Greater true rest x r n f = cc
  apart_step Greater false rest x r n f = refl

  none_step : (o : Ordering) (x : Row) (r : Option Row) → cond (is_eq o) (Some x) r ≡ None → r ≡ None
  none_step Less x r n = n
  none_step Equal x r n = cc
  none_step Greater x r n = n

  or_second : (a b : Bool) → (a || b) ≡ false → b ≡ false
  or_second true b e = cc
  or_second false b e = e

  both_true : (a b : Bool) → a ≡ true → b ≡ true → (a && b) ≡ true
  both_true true true e f = refl
  both_true true false e f = cc
  both_true false b e f = cc

  -- a row whose key no other has, and that clashes with none, is apart from all
  pub apart : (rows : List Row) → row_with def.key key rows ≡ None → clashes def row rows ≡ false → apart_from def row rows ≡ true
  apart [] n f = refl
  apart (x ∷ xs) n f =
      both_true (are_apart def x row) (apart_from def row xs)
      (apart_step (row_order def.key key x) (conflict def x row) (clashes def row xs) x (row_with def.key key xs) n f)
      (apart xs (none_step (row_order def.key key x) x (row_with def.key key xs) n) (or_second (is_rival def row x) (clashes def row xs) f))

  clash_step : (o : Ordering) (c rest all : Bool) → ((is_ne o && c) || rest) ≡ true → (rest ≡ true → all ≡ false) → ((not (is_eq o) && not c) && all) ≡ false
  clash_step Less true rest all e h = refl
  clash_step Less false rest all e h = h e
  clash_step Equal c rest all e h = refl
  clash_step Greater true rest all e h = refl
  clash_step Greater false rest all e h = h e

  -- one that clashes isn't
  pub clashing : (rows : List Row) → clashes def row rows ≡ true → apart_from def row rows ≡ false
  clashing [] e = cc
  clashing (x ∷ xs) e = clash_step (row_order def.key key x) (conflict def x row) (clashes def row xs) (apart_from def row xs) e (clashing xs)

  taken_step : (o : Ordering) (c all : Bool) (x y : Row) (r : Option Row) → cond (is_eq o) (Some x) r ≡ Some y → (r ≡ Some y → all ≡ false) → ((not (is_eq o) && not c) && all) ≡ false
  taken_step Less true all x y r e h = refl
  taken_step Less false all x y r e h = h e
  taken_step Equal c all x y r e h = refl
  taken_step Greater true all x y r e h = refl
  taken_step Greater false all x y r e h = h e

  -- nor is one whose key another has
  pub key_taken : (rows : List Row) (y : Row) → row_with def.key key rows ≡ Some y → apart_from def row rows ≡ false
  key_taken [] y e = cc
  key_taken (x ∷ xs) y e = taken_step (row_order def.key key x) (conflict def x row) (apart_from def row xs) x y (row_with def.key key xs) e (key_taken xs y)

not_taken : (def : TableDef) (row : Row) (rows : List Row) (o : Option Row) → row_with def.key (values_at def.key row) rows ≡ o → apart_from def row rows ≡ true → row_with def.key (values_at def.key row) rows ≡ None
not_taken def row rows None e f = e
not_taken def row rows (Some y) e f = absurd (let bad : true ≡ false = sym f ∙ key_taken def row rows y e in cc)

is_false : (b : Bool) → (b ≡ true → ⊥) → b ≡ false
is_false true h = absurd (h refl)
is_false false h = refl

-- ---- rows one after another

-- the row keeps the rules in the table exactly where all rows together do
fits_keep : (c : Contents) (xs : List Row) (row : Row) → c.rows ≡ in_order c.def.key xs → keep_rules c.def xs ≡ true → keep_rules c.def (xs ++ row ∷ []) ≡ fits_in row c
fits_keep c xs row e k =
    keep-new c.def xs row k
    ∙ ap (λ x. is_filled c.def row && x) (sym (all-in_order c.def.key (λ other. are_apart c.def other row) xs) ∙ ap (apart_from c.def row) (sym e))

pub put_order : (c : Contents) (xs : List Row) (row : Row) → c.rows ≡ in_order c.def.key xs → IsAscending c.def.key c.rows → fits_in row c ≡ true → (with_row c row).rows ≡ in_order c.def.key (xs ++ row ∷ [])
put_order c xs row e up f =
    let none : row_with c.def.key (values_at c.def.key row) c.rows ≡ None =
    not_taken c.def row c.rows (row_with c.def.key (values_at c.def.key row) c.rows) refl (second_true (is_filled c.def row) (apart_from c.def row c.rows) f) in
    put-put_in c.def.key row c.rows up none ∙ ap (placed_after c.def.key row) e ∙ sym (in_order-last c.def.key xs row)

-- some rows keep the rules one after another exactly where all rows together do, and then all stand in order
pub record AreIn (rows xs : List Row) (c : Contents) : Type 0 where
  pub rules : fit_in rows c ≡ keep_rules c.def (xs ++ rows)
  pub order : fit_in rows c ≡ true → (with_rows rows c).rows ≡ in_order c.def.key (xs ++ rows)

in_step : (row : Row) (rows xs : List Row) (c : Contents) (b : Bool) → fits_in row c ≡ b → c.rows ≡ in_order c.def.key xs → IsAscending c.def.key c.rows → keep_rules c.def xs ≡ true
    → ((with_row c row).rows ≡ in_order c.def.key (xs ++ row ∷ []) → keep_rules c.def (xs ++ row ∷ []) ≡ true → AreIn rows (xs ++ row ∷ []) (with_row c row)) → AreIn (row ∷ rows) xs c
in_step row rows xs c true f e up k h =
    let kept : keep_rules c.def (xs ++ row ∷ []) ≡ true = fits_keep c xs row e k ∙ f in
    let rest : AreIn rows (xs ++ row ∷ []) (with_row c row) = h (put_order c xs row e up f) kept in
    record {
      rules = ap (λ x. x && fit_in rows (with_row c row)) f ∙ rest.rules ∙ ap (keep_rules c.def) (append_assoc xs (row ∷ []) rows);
      order = λ g. rest.order (second_true (fits_in row c) (fit_in rows (with_row c row)) g) ∙ ap (in_order c.def.key) (append_assoc xs (row ∷ []) rows);
    }
in_step row rows xs c false f e up k h =
    let broken : keep_rules c.def (xs ++ row ∷ []) ≡ false = fits_keep c xs row e k ∙ f in
    let all : keep_rules c.def (xs ++ row ∷ rows) ≡ false = is_false (keep_rules c.def (xs ++ row ∷ rows)) (λ g.
    let front : keep_rules c.def (xs ++ row ∷ []) ≡ true = keep-front c.def (xs ++ row ∷ []) rows (ap (keep_rules c.def) (append_assoc xs (row ∷ []) rows) ∙ g) in
    let bad : true ≡ false = sym front ∙ broken in cc) in
    record {
      rules = ap (λ x. x && fit_in rows (with_row c row)) f ∙ sym all;
      order = λ g. absurd (let bad : false ≡ true = sym (ap (λ x. x && fit_in rows (with_row c row)) f) ∙ g in cc);
    }

pub all_in : (rows xs : List Row) (c : Contents) → c.rows ≡ in_order c.def.key xs → IsAscending c.def.key c.rows → keep_rules c.def xs ≡ true → AreIn rows xs c
all_in [] xs c e up k = record {
  rules = sym (ap (keep_rules c.def) (append-nil xs) ∙ k);
  order = λ g. e ∙ ap (in_order c.def.key) (sym (append-nil xs));
}
all_in (row ∷ rows) xs c e up k =
    in_step row rows xs c (fits_in row c) refl e up k (λ o f. all_in rows (xs ++ row ∷ []) (with_row c row) o (ascending-put c.def.key row c.rows up) f)

-- ---- lists of rows in two parts

pub fit_in-append : (xs ys : List Row) (c : Contents) → fit_in (xs ++ ys) c ≡ (fit_in xs c && fit_in ys (with_rows xs c))
fit_in-append [] ys c = refl
fit_in-append (x ∷ xs) ys c = ap (λ b. fits_in x c && b) (fit_in-append xs ys (with_row c x)) ∙ sym (and_assoc (fits_in x c) (fit_in xs (with_row c x)) (fit_in ys (with_rows xs (with_row c x))))

pub with_rows-append : (xs ys : List Row) (c : Contents) → with_rows (xs ++ ys) c ≡ with_rows ys (with_rows xs c)
with_rows-append [] ys c = refl
with_rows-append (x ∷ xs) ys c = with_rows-append xs ys (with_row c x)

pub with_rows-def : (rows : List Row) (c : Contents) → (with_rows rows c).def ≡ c.def
with_rows-def [] c = refl
with_rows-def (row ∷ rows) c = with_rows-def rows (with_row c row)

-- a row that doesn't keep the rules after some that do
pub fails_at : (xs ys : List Row) (row : Row) (c : Contents) → fit_in xs c ≡ true → fits_in row (with_rows xs c) ≡ false → fit_in (xs ++ row ∷ ys) c ≡ false
fails_at xs ys row c f g =
    fit_in-append xs (row ∷ ys) c ∙ ap (λ b. b && fit_in (row ∷ ys) (with_rows xs c)) f ∙ ap (λ b. b && fit_in ys (with_row (with_rows xs c) row)) g

pub fits_one_more : (xs : List Row) (row : Row) (c : Contents) → fit_in xs c ≡ true → fits_in row (with_rows xs c) ≡ true → fit_in (xs ++ row ∷ []) c ≡ true
fits_one_more xs row c f g = fit_in-append xs (row ∷ []) c ∙ ap (λ b. b && fit_in (row ∷ []) (with_rows xs c)) f ∙ ap (λ b. b && true) g

-- ---- how many rows there are

parts_step : (columns : List ℕ) (key : List Datum) (x : Row) (xs : List Row) (o : Ordering) → row_order columns key x ≡ o
    → length (rows_below columns key xs) + length (rows_above columns key xs) ≤ length xs
    → length (cond (is_lt o) (x ∷ rows_below columns key xs) (rows_below columns key xs)) + length (cond (is_gt o) (x ∷ rows_above columns key xs) (rows_above columns key xs)) ≤ length (x ∷ xs)
parts_step columns key x xs Less e h = omega arith
parts_step columns key x xs Equal e h = omega arith
parts_step columns key x xs Greater e h = omega arith

parts_bound : (columns : List ℕ) (key : List Datum) (rows : List Row) → length (rows_below columns key rows) + length (rows_above columns key rows) ≤ length rows
parts_bound columns key [] = omega arith
parts_bound columns key (x ∷ xs) = parts_step columns key x xs (row_order columns key x) refl (parts_bound columns key xs)

put-bound : (columns : List ℕ) (row : Row) (rows : List Row) → length (put columns row rows) ≤ length rows + 1
put-bound columns row rows =
    omega (arith, parts_bound columns (values_at columns row) rows, length-append (rows_below columns (values_at columns row) rows) (row ∷ rows_above columns (values_at columns row) rows))

pub with_rows-bound : (rows : List Row) (c : Contents) → length (with_rows rows c).rows ≤ length c.rows + length rows
with_rows-bound [] c = omega arith
with_rows-bound (row ∷ rows) c = omega (arith, with_rows-bound rows (with_row c row), put-bound c.def.key row c.rows)

pub without-bound : (columns : List ℕ) (key : List Datum) (rows : List Row) → length (without columns key rows) ≤ length rows
without-bound columns key rows = omega (arith, parts_bound columns key rows, length-append (rows_below columns key rows) (rows_above columns key rows))
