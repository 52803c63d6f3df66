-- A legal table without one of its rows is legal, so the DELETE of a row fails at its end by a FOREIGN KEY constraint alone.
use Rattle.std.proofs.Common.{◌≡◌, ◌≤◌, ◌+◌, List, [], ◌∷◌, ◌++◌, Bool, true, false, length, refl, ◌∙◌, arith}
use Rattle.std.specs.Prelude.{filter, if◌then◌else◌}
use Rattle.std.specs.List.{list_all}
use Rattle.std.specs.Ordering.{is_gt, is_lt}
use Rattle.std.specs.declared.cmp.Ordering.{Ordering}
use Rattle.std.specs.declared.cmp.Ordering.TheVariants.{Less, Equal, Greater}
use Rattle.std.proofs.lemmas.List.{length-append}
use Rattle.std.proofs.lemmas.List.Elements.{All-append, All-filter}
use Rattle.psm_value.specs.declared.datum.Datum.{Datum}
use Rattle.psm_table.specs.declared.definition.TableDef.{TableDef}
use Rattle.psm_table.specs.Changing.{all_apart, are_apart, deleted_at, ended_with, is_filled, row_is_stored, rows_but, IsLegal, Schema}
use Rattle.psm_table.specs.Definition.{kinds_of}
use Rattle.psm_table.specs.Evaluator.{Evaluator}
use Rattle.psm_table.specs.Key.{row_order, values_at}
use Rattle.psm_table.specs.Rows.{IsAscending}
use Rattle.psm_table.specs.Table.{most_rows}
use Rattle.psm_table.proofs.AsStored.{append_all, but_one_all}
use Rattle.psm_table.proofs.Checks.{all_pass, each_passes, Passes}
use Rattle.psm_table.proofs.Deleting.{ended_legal}
use Rattle.psm_table.proofs.Rules.{apart-turned, both, first_true, second_true}
use Rattle.psm_table.proofs.Tables.{ascending-without}

abbrev Row : Type 0
Row = List Datum

-- ---- tests of all rows

filter_list : (t p : Row → Bool) (rows : List Row) → list_all t rows ≡ true → list_all t (filter p rows) ≡ true
filter_list t p [] h = refl
filter_list t p (row ∷ rows) h = by (p row) (filter_list t p rows (second_true (t row) (list_all t rows) h)) where
  by : (b : Bool) → list_all t (filter p rows) ≡ true → list_all t (if b then row ∷ filter p rows else filter p rows) ≡ true
  by true k = both (t row) (list_all t (filter p rows)) (first_true (t row) (list_all t rows) h) k
  by false k = k

insert_list : (t : Row → Bool) (row : Row) (xs ys : List Row) → list_all t (xs ++ ys) ≡ true → t row ≡ true → list_all t (xs ++ row ∷ ys) ≡ true
insert_list t row [] ys h k = both (t row) (list_all t ys) k h
insert_list t row (x ∷ xs) ys h k = both (t x) (list_all t (xs ++ row ∷ ys)) (first_true (t x) (list_all t (xs ++ ys)) h) (insert_list t row xs ys (second_true (t x) (list_all t (xs ++ ys)) h) k)

-- ---- rows that pass the one or the other of two tests

module _ (p q : Row → Bool) (other : (row : Row) → p row ≡ true → q row ≡ true → ⊥) where
  few_split : (rows : List Row) → length (filter p rows) + length (filter q rows) ≤ length rows
  few_split [] = omega arith
  few_split (row ∷ rows) = by (p row) (q row) refl refl (few_split rows) where
    by : (a b : Bool) → p row ≡ a → q row ≡ b → length (filter p rows) + length (filter q rows) ≤ length rows
        → length (if a then row ∷ filter p rows else filter p rows) + length (if b then row ∷ filter q rows else filter q rows) ≤ length (row ∷ rows)
    by true true e f k = absurd (other row e f)
    by true false e f k = omega (arith, k)
    by false true e f k = omega (arith, k)
    by false false e f k = omega (arith, k)

  module _ (def : TableDef) where
    insert_apart : (row : Row) (xs ys : List Row) → list_all (are_apart def row) (xs ++ ys) ≡ true → all_apart def (xs ++ ys) ≡ true → all_apart def (xs ++ row ∷ ys) ≡ true
    insert_apart row [] ys h k = both (list_all (are_apart def row) ys) (all_apart def ys) h k
    insert_apart row (x ∷ xs) ys h k =
        both (list_all (are_apart def x) (xs ++ row ∷ ys)) (all_apart def (xs ++ row ∷ ys))
        (insert_list (are_apart def x) row xs ys (first_true (list_all (are_apart def x) (xs ++ ys)) (all_apart def (xs ++ ys)) k) (apart-turned def x row ∙ first_true (are_apart def row x) (list_all (are_apart def row) (xs ++ ys)) h))
        (insert_apart row xs ys (second_true (are_apart def row x) (list_all (are_apart def row) (xs ++ ys)) h) (second_true (list_all (are_apart def x) (xs ++ ys)) (all_apart def (xs ++ ys)) k))

    split_apart : (rows : List Row) → all_apart def rows ≡ true → all_apart def (filter p rows ++ filter q rows) ≡ true
    split_apart [] h = refl
    split_apart (row ∷ rows) h = by (p row) (q row) refl refl (split_apart rows (second_true (list_all (are_apart def row) rows) (all_apart def rows) h)) where
      first : list_all (are_apart def row) (filter p rows ++ filter q rows) ≡ true
      first =
          let a = first_true (list_all (are_apart def row) rows) (all_apart def rows) h in
          append_all (are_apart def row) (filter p rows) (filter q rows) (filter_list (are_apart def row) p rows a) (filter_list (are_apart def row) q rows a)

      by : (a b : Bool) → p row ≡ a → q row ≡ b → all_apart def (filter p rows ++ filter q rows) ≡ true → all_apart def ((if a then row ∷ filter p rows else filter p rows) ++ (if b then row ∷ filter q rows else filter q rows)) ≡ true
      by true true e f k = absurd (other row e f)
      by true false e f k = both (list_all (are_apart def row) (filter p rows ++ filter q rows)) (all_apart def (filter p rows ++ filter q rows)) first k
      by false true e f k = insert_apart row (filter p rows) (filter q rows) first k
      by false false e f k = k

-- ---- the rows but one

not_less_greater : (o : Ordering) → is_lt o ≡ true → is_gt o ≡ true → ⊥
not_less_greater Less h k = cc
not_less_greater Equal h k = cc
not_less_greater Greater h k = cc

module _ {E : Type 0} (plain : Evaluator E) (schema : Schema E) (row : Row) where
  abbrev below : Row → Bool
  below r = is_lt (row_order schema.def.key (values_at schema.def.key row) r)

  abbrev above : Row → Bool
  above r = is_gt (row_order schema.def.key (values_at schema.def.key row) r)

  apart : (r : Row) → below r ≡ true → above r ≡ true → ⊥
  apart r a b = not_less_greater (row_order schema.def.key (values_at schema.def.key row) r) a b

  few_but : (rows : List Row) → length (rows_but schema.def row rows) ≤ length rows
  few_but rows = omega (arith, length-append (filter below rows) (filter above rows), few_split below above apart rows)

  legal_but : (rows : List Row) → IsLegal plain schema rows → IsLegal plain schema (rows_but schema.def row rows)
  legal_but rows h =
      let filled = first_true (list_all (is_filled schema.def) rows) (all_apart schema.def rows) h.rules in
      let passes = each_passes plain schema.checks rows h.pass in
      record {
        stored = but_one_all (row_is_stored (kinds_of schema.def.columns)) schema.def row rows h.stored;
        pass = all_pass plain schema.checks (rows_but schema.def row rows)
            (All-append (Passes plain schema.checks) (filter below rows) (filter above rows) (All-filter below (Passes plain schema.checks) rows passes) (All-filter above (Passes plain schema.checks) rows passes));
        rules = both (list_all (is_filled schema.def) (rows_but schema.def row rows)) (all_apart schema.def (rows_but schema.def row rows))
            (append_all (is_filled schema.def) (filter below rows) (filter above rows) (filter_list (is_filled schema.def) below rows filled) (filter_list (is_filled schema.def) above rows filled))
            (split_apart below above apart schema.def rows (second_true (list_all (is_filled schema.def) rows) (all_apart schema.def rows) h.rules));
      }

  pub deleted_at_legally : (rows : List Row) → IsLegal plain schema rows → IsAscending schema.def.key rows → length rows ≤ most_rows → deleted_at plain schema row rows ≡ ended_with schema.def (rows_but schema.def row rows) (schema.keyed (rows_but schema.def row rows))
  deleted_at_legally rows h up few =
      let fewer = few_but rows in
      ended_legal plain schema (rows_but schema.def row rows) (legal_but rows h) (ascending-without schema.def.key (values_at schema.def.key row) rows up) (omega (arith, fewer, few))
