-- The rules of a table that need no evaluation, row by row.
use Rattle.std.proofs.Common.{◌≡◌, ℕ, List, [], ◌∷◌, ◌++◌, append_assoc, Bool, true, false, ◌&&◌, ◌||◌, refl, ap, sym, ◌∙◌}
use Rattle.std.proofs.lemmas.List.{append-nil}
use Rattle.std.specs.Prelude.{not}
use Rattle.std.specs.List.{list_all, list_any}
use Rattle.std.specs.Ordering.{is_eq, ordering_reverse}
use Rattle.std.specs.declared.cmp.Ordering.{Ordering}
use Rattle.std.specs.declared.cmp.Ordering.TheVariants.{Less, Equal, Greater}
use Rattle.std.proofs.lemmas.List.Folds.{list_all-append}
use Rattle.psm_value.specs.declared.datum.Datum.{Datum}
use Rattle.psm_table.specs.declared.definition.TableDef.{TableDef}
use Rattle.psm_table.specs.Changing.{all_apart, are_apart, in_order, is_before, is_filled, keep_rules, inserted_in}
use Rattle.psm_table.specs.Key.{key_order, values_at}
use Rattle.psm_table.specs.Unique.{agree, conflict}
use Rattle.psm_table.proofs.KeyLaws.{key_order-total}
use Rattle.psm_table.proofs.UniqueLaws.{agree-turned}

abbrev Row : Type 0
Row = List Datum

-- ---- Booleans

and_true : (a : Bool) → (a && true) ≡ a
and_true true = refl
and_true false = refl

and_false : (a : Bool) → (a && false) ≡ false
and_false true = refl
and_false false = refl

pub and_assoc : (a b c : Bool) → ((a && b) && c) ≡ (a && (b && c))
and_assoc true b c = refl
and_assoc false b c = refl

pub and_turned : (a b : Bool) → (a && b) ≡ (b && a)
and_turned true b = sym (and_true b)
and_turned false b = sym (and_false b)

-- the inner two change places
and_crossed : (a b c d : Bool) → ((a && b) && (c && d)) ≡ ((a && c) && (b && d))
and_crossed a b c d =
    and_assoc a b (c && d) ∙ ap (λ x. a && x) (sym (and_assoc b c d) ∙ ap (λ x. x && d) (and_turned b c) ∙ and_assoc c b d) ∙ sym (and_assoc a c (b && d))

pub both : (a b : Bool) → a ≡ true → b ≡ true → (a && b) ≡ true
both true true e f = refl
both true false e f = cc
both false b e f = cc

pub first_true : (a b : Bool) → (a && b) ≡ true → a ≡ true
first_true true b e = refl
first_true false b e = cc

pub second_true : (a b : Bool) → (a && b) ≡ true → b ≡ true
second_true true b e = e
second_true false b e = cc

-- ---- two rows

turned_equal : (o : Ordering) → is_eq (ordering_reverse o) ≡ is_eq o
turned_equal Less = refl
turned_equal Equal = refl
turned_equal Greater = refl

agree_any : (a b : Row) (lists : List (List ℕ)) → list_any (agree a b) lists ≡ list_any (agree b a) lists
agree_any a b [] = refl
agree_any a b (columns ∷ lists) = ap (λ x. x || list_any (agree a b) lists) (agree-turned a b columns) ∙ ap (λ x. agree b a columns || x) (agree_any a b lists)

-- two rows are apart whichever comes first
pub apart-turned : (def : TableDef) (a b : Row) → are_apart def a b ≡ are_apart def b a
apart-turned def a b =
    ap (λ x. not x && not (conflict def a b)) (ap is_eq (key_order-total.antisymm (values_at def.key a) (values_at def.key b)) ∙ turned_equal (key_order (values_at def.key b) (values_at def.key a)))
    ∙ ap (λ x. not (is_eq (key_order (values_at def.key b) (values_at def.key a))) && not x) (agree_any a b def.unique)

-- ---- a test of rows in the order of keys

module _ (key : List ℕ) where
  all_step : (p : Row → Bool) (row y : Row) (ys : List Row) (b : Bool) → is_before key row y ≡ b
      → list_all p (inserted_in key row ys) ≡ (p row && list_all p ys) → list_all p (inserted_in key row (y ∷ ys)) ≡ (p row && list_all p (y ∷ ys))
  all_step p row y ys true e h = rw e refl
  all_step p row y ys false e h =
      rw e (ap (λ x. p y && x) h ∙ sym (and_assoc (p y) (p row) (list_all p ys)) ∙ ap (λ x. x && list_all p ys) (and_turned (p y) (p row)) ∙ and_assoc (p row) (p y) (list_all p ys))

  pub all-put_in : (p : Row → Bool) (row : Row) (rows : List Row) → list_all p (inserted_in key row rows) ≡ (p row && list_all p rows)
  all-put_in p row [] = refl
  all-put_in p row (y ∷ ys) = all_step p row y ys (is_before key row y) refl (all-put_in p row ys)

  pub all-in_order : (p : Row → Bool) (rows : List Row) → list_all p (in_order key rows) ≡ list_all p rows
  all-in_order p [] = refl
  all-in_order p (row ∷ rows) = all-put_in p row (in_order key rows) ∙ ap (λ x. p row && x) (all-in_order p rows)

-- ---- one row more

module _ (def : TableDef) where
  -- whether each of the rows is apart from a row
  abbrev pub apart_from : Row → List Row → Bool
  apart_from row rows = list_all (λ other. are_apart def other row) rows

  apart-last : (rows : List Row) (row : Row) → all_apart def (rows ++ row ∷ []) ≡ (all_apart def rows && apart_from row rows)
  apart-last [] row = refl
  apart-last (r ∷ rows) row =
      ap (λ x. x && all_apart def (rows ++ row ∷ [])) (list_all-append (are_apart def r) rows (row ∷ []) ∙ ap (λ x. list_all (are_apart def r) rows && x) (and_true (are_apart def r row)))
      ∙ ap (λ x. (list_all (are_apart def r) rows && are_apart def r row) && x) (apart-last rows row)
      ∙ and_crossed (list_all (are_apart def r) rows) (are_apart def r row) (all_apart def rows) (apart_from row rows)

  pub keep-last : (rows : List Row) (row : Row) → keep_rules def (rows ++ row ∷ []) ≡ (keep_rules def rows && (is_filled def row && apart_from row rows))
  keep-last rows row =
      ap (λ x. x && all_apart def (rows ++ row ∷ [])) (list_all-append (is_filled def) rows (row ∷ []) ∙ ap (λ x. list_all (is_filled def) rows && x) (and_true (is_filled def row)))
      ∙ ap (λ x. (list_all (is_filled def) rows && is_filled def row) && x) (apart-last rows row)
      ∙ and_crossed (list_all (is_filled def) rows) (is_filled def row) (all_apart def rows) (apart_from row rows)

  -- what a statement has to test of a new row where the old ones keep the rules
  pub keep-new : (rows : List Row) (row : Row) → keep_rules def rows ≡ true → keep_rules def (rows ++ row ∷ []) ≡ (is_filled def row && apart_from row rows)
  keep-new rows row e = keep-last rows row ∙ ap (λ x. x && (is_filled def row && apart_from row rows)) e

  -- rows that break a rule break it with others too
  pub keep-front : (rows more : List Row) → keep_rules def (rows ++ more) ≡ true → keep_rules def rows ≡ true
  keep-front rows [] e = ap (keep_rules def) (sym (append-nil rows)) ∙ e
  keep-front rows (row ∷ more) e =
      let longer : keep_rules def (rows ++ row ∷ []) ≡ true = keep-front (rows ++ row ∷ []) more (ap (keep_rules def) (append_assoc rows (row ∷ []) more) ∙ e) in
      first_true (keep_rules def rows) (is_filled def row && apart_from row rows) (sym (keep-last rows row) ∙ longer)

  -- ---- in the order of keys

  module _ (key : List ℕ) where
    apart_step : (row y : Row) (ys : List Row) (b : Bool) → is_before key row y ≡ b
        → all_apart def (inserted_in key row ys) ≡ (list_all (are_apart def row) ys && all_apart def ys)
        → all_apart def (inserted_in key row (y ∷ ys)) ≡ (list_all (are_apart def row) (y ∷ ys) && all_apart def (y ∷ ys))
    apart_step row y ys true e h = rw e refl
    apart_step row y ys false e h =
        rw e (ap (λ x. x && all_apart def (inserted_in key row ys)) (all-put_in key (are_apart def y) row ys)
        ∙ ap (λ x. (are_apart def y row && list_all (are_apart def y) ys) && x) h
        ∙ and_crossed (are_apart def y row) (list_all (are_apart def y) ys) (list_all (are_apart def row) ys) (all_apart def ys)
        ∙ ap (λ x. (x && list_all (are_apart def row) ys) && (list_all (are_apart def y) ys && all_apart def ys)) (apart-turned def y row))

    apart-put_in : (row : Row) (rows : List Row) → all_apart def (inserted_in key row rows) ≡ (list_all (are_apart def row) rows && all_apart def rows)
    apart-put_in row [] = refl
    apart-put_in row (y ∷ ys) = apart_step row y ys (is_before key row y) refl (apart-put_in row ys)

    apart-in_order : (rows : List Row) → all_apart def (in_order key rows) ≡ all_apart def rows
    apart-in_order [] = refl
    apart-in_order (row ∷ rows) =
        apart-put_in row (in_order key rows) ∙ ap (λ x. x && all_apart def (in_order key rows)) (all-in_order key (are_apart def row) rows)
        ∙ ap (λ x. list_all (are_apart def row) rows && x) (apart-in_order rows)

    -- rows keep the rules in any order of keys
    pub keep-in_order : (rows : List Row) → keep_rules def (in_order key rows) ≡ keep_rules def rows
    keep-in_order rows = ap (λ x. x && all_apart def (in_order key rows)) (all-in_order key (is_filled def) rows) ∙ ap (λ x. list_all (is_filled def) rows && x) (apart-in_order rows)
