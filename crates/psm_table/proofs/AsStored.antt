-- Rows whose values are as their columns store them, before and after a statement.
use Rattle.std.proofs.Common.{◌≡◌, ℕ, suc, zero, List, [], ◌∷◌, ◌++◌, Bool, true, false, refl, ap, sym, ◌∙◌, Result, Ok, Err}
use Rattle.std.specs.Prelude.{filter, slice_index_or, slice_set, if◌then◌else◌}
use Rattle.std.specs.List.{list_all}
use Rattle.std.specs.Ordering.{is_gt, is_lt}
use Rattle.std.proofs.lemmas.List.Folds.{list_all-append}
use Rattle.psm_sqlstate.specs.declared.state.SqlState.{SqlState}
use Rattle.psm_value.specs.declared.datum.Datum.{Datum}
use Rattle.psm_value.specs.declared.sqltype.SqlType.{SqlType}
use Rattle.psm_value.specs.declared.sqltype.SqlType.TheVariants as types
use Rattle.psm_value.specs.Stored.{is_stored, stored}
use Rattle.psm_value.proofs.Stable.{stored-as_stored}
use Rattle.psm_table.specs.declared.definition.TableDef.{TableDef}
use Rattle.psm_table.specs.Changing.{kind_of, new_values, row_is_stored, rows_but, set_row, stored_row, stored_rows, with_values, SetItem}
use Rattle.psm_table.specs.Definition.{kinds_of}
use Rattle.psm_table.specs.Evaluator.{Evaluator, and_then, mapped}
use Rattle.psm_table.specs.Key.{row_order, values_at}
use Rattle.psm_table.proofs.Rules.{both, first_true, second_true}

abbrev Row : Type 0
Row = List Datum

and_ok : {A B : Type 0} (x : Result A SqlState) (go : A → Result B SqlState) (b : B) → and_then x go ≡ Ok b → (a : A) × (x ≡ Ok a) × (go a ≡ Ok b)
and_ok (Ok a) go b e = (a, refl, e)
and_ok (Err s) go b e = cc

mapped_ok : {A B : Type 0} (f : A → B) (x : Result A SqlState) (b : B) → mapped f x ≡ Ok b → (a : A) × (x ≡ Ok a) × (f a ≡ b)
mapped_ok f (Ok a) b e = (a, refl, cc)
mapped_ok f (Err s) b e = cc

-- ---- rows that are stored

row_as_stored : (ts : List SqlType) (vs ds : Row) → stored_row ts vs ≡ Ok ds → row_is_stored ts ds ≡ true
row_as_stored [] vs ds e = let none : Row = [] in let same : none ≡ ds = cc in ap (row_is_stored []) (sym same)
row_as_stored (t ∷ ts) [] ds e = let none : Row = [] in let same : none ≡ ds = cc in ap (row_is_stored (t ∷ ts)) (sym same)
row_as_stored (t ∷ ts) (v ∷ vs) ds e =
    let a = and_ok (stored t v) (λ d. mapped (λ ds. d ∷ ds) (stored_row ts vs)) ds e in
    let b = mapped_ok (λ ds. a.0 ∷ ds) (stored_row ts vs) ds a.2 in
    ap (row_is_stored (t ∷ ts)) (sym b.2)
    ∙ both (is_stored t a.0) (row_is_stored ts b.0) (stored-as_stored t v a.0 a.1) (row_as_stored ts vs b.0 b.1)

pub rows_as_stored : (ts : List SqlType) (new made : List Row) → stored_rows ts new ≡ Ok made → list_all (row_is_stored ts) made ≡ true
rows_as_stored ts [] made e = let none : List Row = [] in let same : none ≡ made = cc in ap (list_all (row_is_stored ts)) (sym same)
rows_as_stored ts (row ∷ rows) made e =
    let a = and_ok (stored_row ts row) (λ r. mapped (λ rs. r ∷ rs) (stored_rows ts rows)) made e in
    let b = mapped_ok (λ rs. a.0 ∷ rs) (stored_rows ts rows) made a.2 in
    ap (list_all (row_is_stored ts)) (sym b.2)
    ∙ both (row_is_stored ts a.0) (list_all (row_is_stored ts) b.0) (row_as_stored ts row a.0 a.1) (rows_as_stored ts rows b.0 b.1)

-- ---- rows that SET makes

set_as_stored : (ts : List SqlType) (row : Row) (i : ℕ) (d : Datum) → row_is_stored ts row ≡ true → is_stored (slice_index_or ts i types.SmallInt) d ≡ true → row_is_stored ts (slice_set row i d) ≡ true
set_as_stored [] row i d h k = refl
set_as_stored (t ∷ ts) [] i d h k = h
set_as_stored (t ∷ ts) (v ∷ row) zero d h k = both (is_stored t d) (row_is_stored ts row) k (second_true (is_stored t v) (row_is_stored ts row) h)
set_as_stored (t ∷ ts) (v ∷ row) (suc i) d h k =
    both (is_stored t v) (row_is_stored ts (slice_set row i d)) (first_true (is_stored t v) (row_is_stored ts row) h)
    (set_as_stored ts row i d (second_true (is_stored t v) (row_is_stored ts row) h) k)

with_as_stored : {E : Type 0} (def : TableDef) (sets : List (SetItem E)) (vs row made : Row) → row_is_stored (kinds_of def.columns) row ≡ true → with_values def sets vs row ≡ Ok made → row_is_stored (kinds_of def.columns) made ≡ true
with_as_stored def [] vs row made h e = let same : row ≡ made = cc in ap (row_is_stored (kinds_of def.columns)) (sym same) ∙ h
with_as_stored def (s ∷ sets) [] row made h e = let same : row ≡ made = cc in ap (row_is_stored (kinds_of def.columns)) (sym same) ∙ h
with_as_stored def (s ∷ sets) (v ∷ vs) row made h e =
    let a = and_ok (stored (kind_of def s.column) v) (λ d. with_values def sets vs (slice_set row s.column d)) made e in
    with_as_stored def sets vs (slice_set row s.column a.0) made
    (set_as_stored (kinds_of def.columns) row s.column a.0 h (stored-as_stored (kind_of def s.column) v a.0 a.1)) a.2

pub set_row_as_stored : {E : Type 0} (ev : Evaluator E) (def : TableDef) (sets : List (SetItem E)) (row made : Row) → row_is_stored (kinds_of def.columns) row ≡ true → set_row ev def sets row ≡ Ok made
    → row_is_stored (kinds_of def.columns) made ≡ true
set_row_as_stored ev def sets row made h e =
    let a = and_ok (new_values ev sets row) (λ vs. with_values def sets vs row) made e in with_as_stored def sets a.0 row made h a.2

-- ---- rows of a table without one of them

filter_all : (t p : Row → Bool) (rows : List Row) → list_all t rows ≡ true → list_all t (filter p rows) ≡ true
filter_all t p [] h = refl
filter_all t p (row ∷ rows) h = by (p row) (filter_all t p rows (second_true (t row) (list_all t rows) h)) where
  by : (b : Bool) → list_all t (filter p rows) ≡ true → list_all t (if b then row ∷ filter p rows else filter p rows) ≡ true
  by true k = both (t row) (list_all t (filter p rows)) (first_true (t row) (list_all t rows) h) k
  by false k = k

pub append_all : (t : Row → Bool) (xs ys : List Row) → list_all t xs ≡ true → list_all t ys ≡ true → list_all t (xs ++ ys) ≡ true
append_all t xs ys h k = list_all-append t xs ys ∙ both (list_all t xs) (list_all t ys) h k

pub but_one_all : (t : Row → Bool) (def : TableDef) (row : Row) (rows : List Row) → list_all t rows ≡ true → list_all t (rows_but def row rows) ≡ true
but_one_all t def row rows h =
    let below : Row → Bool = λ r. is_lt (row_order def.key (values_at def.key row) r) in
    let above : Row → Bool = λ r. is_gt (row_order def.key (values_at def.key row) r) in
    append_all t (filter below rows) (filter above rows) (filter_all t below rows h) (filter_all t above rows h)
