-- A row that is put in the place of the one that has its key.
use Rattle.std.proofs.Common.{◌≡◌, ℕ, List, [], ◌∷◌, ◌++◌, Bool, true, false, ◌&&◌, ◌||◌, refl, ap, sym, ◌∙◌, Option, Some, None, Result, Ok, Err}
use Rattle.std.specs.Prelude.{All, IfOk, IsSome, cond, filter, not}
use Rattle.std.specs.List.{list_all}
use Rattle.std.specs.Cmp.{alike_right}
use Rattle.std.specs.Ordering.{is_eq, is_gt, is_lt, is_ne}
use Rattle.std.specs.declared.cmp.Ordering.{Ordering}
use Rattle.std.specs.declared.cmp.Ordering.TheVariants.{Less, Equal, Greater}
use Rattle.std.proofs.lemmas.List.Elements.{All-nil}
use Rattle.psm_value.specs.declared.datum.Datum.{Datum}
use Rattle.psm_table.specs.declared.definition.TableDef.{TableDef}
use Rattle.psm_table.specs.declared.fault.RowFault.{RowFault}
use Rattle.psm_table.specs.declared.fault.RowFault.TheVariants.{Duplicate, Absent, Full, Memory}
use Rattle.psm_table.specs.Changing.{are_apart, is_filled}
use Rattle.psm_table.specs.Key.{key_order, row_order, values_at}
use Rattle.psm_table.specs.Rows.{put, rows_above, rows_below, without}
use Rattle.psm_table.specs.Table.{namesake, with_row, without_row, Contents}
use Rattle.psm_table.specs.Unique.{clashes, conflict}
use Rattle.psm_table.proofs.KeyLaws.{key_order-total}
use Rattle.psm_table.proofs.Rules.{apart_from}
use Rattle.psm_table.proofs.Undo.{above-again, below-again}
use Rattle.psm_store.specs.RowCalls.{AnswersFound}
use Rattle.psm_row_changes.specs.Rows.{done_of, fits_in}

abbrev Row : Type 0
Row = List Datum

-- ---- equal keys

filter-alike : {X : Type 0} (s t : X → Bool) → ((x : X) → s x ≡ t x) → (xs : List X) → filter s xs ≡ filter t xs
filter-alike s t h [] = refl
filter-alike s t h (x ∷ xs) = ap (λ b. cond b (x ∷ filter s xs) (filter s xs)) (h x) ∙ ap (λ l. cond (t x) (x ∷ l) l) (filter-alike s t h xs)

alike : (columns : List ℕ) (key other : List Datum) → key_order key other ≡ Equal → (r : Row) → row_order columns other r ≡ row_order columns key r
alike columns key other e r = sym (alike_right key_order-total key other (values_at columns r) e)

without-alike : (columns : List ℕ) (key other : List Datum) → key_order key other ≡ Equal → (rows : List Row) → without columns other rows ≡ without columns key rows
without-alike columns key other e rows =
    ap (λ l. l ++ rows_above columns other rows) (filter-alike (λ r. is_lt (row_order columns other r)) (λ r. is_lt (row_order columns key r)) (λ r. ap is_lt (alike columns key other e r)) rows)
    ∙ ap (λ l. rows_below columns key rows ++ l) (filter-alike (λ r. is_gt (row_order columns other r)) (λ r. is_gt (row_order columns key r)) (λ r. ap is_gt (alike columns key other e r)) rows)

-- ---- the row beside the others

module _ (def : TableDef) (row : Row) where
  abbrev own : List Datum
  own = values_at def.key row

  none : All (λ r. row_order def.key own r ≡ Equal) []
  none = All-nil (λ r. row_order def.key own r ≡ Equal)

  put_again : (rows : List Row) → put def.key row (without def.key own rows) ≡ put def.key row rows
  put_again rows =
      ap (λ l. l ++ row ∷ rows_above def.key own (without def.key own rows)) (below-again def.key own [] rows none)
      ∙ ap (λ l. rows_below def.key own rows ++ row ∷ l) (above-again def.key own [] rows none)

  all-append : (p : Row → Bool) (xs ys : List Row) → list_all p (xs ++ ys) ≡ (list_all p xs && list_all p ys)
  all-append p [] ys = refl
  all-append p (x ∷ xs) ys = ap (λ b. p x && b) (all-append p xs ys) ∙ sym (moved (p x) (list_all p xs) (list_all p ys)) where
    moved : (a b c : Bool) → ((a && b) && c) ≡ (a && (b && c))
    moved true b c = refl
    moved false b c = refl

  all-cond : (p : Row → Bool) (b : Bool) (x : Row) (xs : List Row) → list_all p (cond b (x ∷ xs) xs) ≡ cond b (p x && list_all p xs) (list_all p xs)
  all-cond p true x xs = refl
  all-cond p false x xs = refl

  and_false : (a : Bool) → false ≡ (a && false)
  and_false true = refl
  and_false false = refl

  apart_step : (o : Ordering) (c rest a b : Bool) → not rest ≡ (a && b)
      → not ((is_ne o && c) || rest) ≡ (cond (is_lt o) ((not (is_eq o) && not c) && a) a && cond (is_gt o) ((not (is_eq o) && not c) && b) b)
  apart_step Less true rest a b h = refl
  apart_step Less false rest a b h = h
  apart_step Equal c rest a b h = h
  apart_step Greater true rest a b h = and_false a
  apart_step Greater false rest a b h = h

  abbrev p : Row → Bool
  p other = are_apart def other row

  apart_parts : (rows : List Row) → not (clashes def row rows) ≡ (list_all p (rows_below def.key own rows) && list_all p (rows_above def.key own rows))
  apart_parts [] = refl
  apart_parts (x ∷ xs) =
      apart_step (row_order def.key own x) (conflict def x row) (clashes def row xs) (list_all p (rows_below def.key own xs)) (list_all p (rows_above def.key own xs)) (apart_parts xs)
      ∙ ap (λ a. a && cond (is_gt (row_order def.key own x)) (p x && list_all p (rows_above def.key own xs)) (list_all p (rows_above def.key own xs))) (sym (all-cond p (is_lt (row_order def.key own x)) x (rows_below def.key own xs)))
      ∙ ap (λ b. list_all p (rows_below def.key own (x ∷ xs)) && b) (sym (all-cond p (is_gt (row_order def.key own x)) x (rows_above def.key own xs)))

  apart_again : (rows : List Row) → not (clashes def row rows) ≡ apart_from def row (without def.key own rows)
  apart_again rows = apart_parts rows ∙ sym (all-append p (rows_below def.key own rows) (rows_above def.key own rows))

module _ (row : Row) (key : List Datum) (c : Contents) (same : row_order c.def.key key row ≡ Equal) where
  pub others : without_row key c ≡ without_row (values_at c.def.key row) c
  others = ap (λ r. record c { rows = r }) (without-alike c.def.key (values_at c.def.key row) key same c.rows)

  -- the row is put in beside the others
  pub changed_row : with_row c row ≡ with_row (without_row key c) row
  changed_row = sym (ap (λ x. with_row x row) others ∙ ap (λ r. record c { rows = r }) (put_again c.def row c.rows))

  -- whether it keeps the rules there
  pub changed_fits : (is_filled c.def row && not (clashes c.def row c.rows)) ≡ fits_in row (without_row key c)
  changed_fits = ap (λ b. is_filled c.def row && b) (apart_again c.def row c.rows) ∙ sym (ap (fits_in row) others)

  absent_step : (o : Option Row) → IsSome o → o ≡ None → ⊥
  absent_step None s e = cc
  absent_step (Some x) s e = cc

  -- the answer of a change of the table
  pub changed_answer : (r : Result (Unit {0}) RowFault) → IsSome (namesake c row) → AnswersFound (namesake c row) r → fits_in row (without_row key c) ≡ true → IfOk (done_of r) (λ b. b ≡ fits_in row (without_row key c))
  changed_answer (Ok u) s h e = sym e
  changed_answer (Err Absent) s h e = absurd (absent_step (namesake c row) s h)
  changed_answer (Err Memory) s h e = tt
  changed_answer (Err Full) s h e = absurd h
  changed_answer (Err Duplicate) s h e = absurd h
