-- The end of a statement that has new rows.
use Rattle.std.proofs.Common.{◌≡◌, ◌+◌, ◌<◌, ◌≤◌, List, [], ◌∷◌, ◌++◌, length, length-append, Bool, true, false, ◌&&◌, refl, ap, sym, ◌∙◌, arith, Result, Ok, Err}
use Rattle.std.specs.Prelude.{All, codes, nat_lt}
use Rattle.std.proofs.lemmas.Bool.{and_parts, le-ltb, lt-ltb}
use Rattle.psm_sqlstate.specs.declared.state.SqlState.{SqlState}
use Rattle.psm_value.specs.declared.datum.Datum.{Datum}
use Rattle.psm_table.specs.Changing.{ended, ended_with, in_order, keep_rules, rows_pass, then_of, Failure, IsLegal, OfTable, Raised, Schema}
use Rattle.psm_table.specs.Evaluator.{Evaluator}
use Rattle.psm_table.specs.Rows.{IsAscending}
use Rattle.psm_table.specs.Table.{most_rows, with_row, Contents}
use Rattle.psm_table.proofs.Checks.{passing_rows, Passes}
use Rattle.psm_table.proofs.Legal.{legal_passes}
use Rattle.psm_table.proofs.Ordered.{in_order-ascending}
use Rattle.psm_row_changes.proofs.Leftover.{and_where}
use Rattle.psm_row_changes.specs.Rows.{fit_in, with_rows}
use Rattle.psm_row_changes.proofs.Putting.{all_in, AreIn}

abbrev Row : Type 0
Row = List Datum

module _ {E : Type 0} (ev : Evaluator E) (schema : Schema E) where
  abbrev ending : List Row → Result Bool SqlState → Result (List Row) Failure
  ending rows r = then_of r (λ ok. ended_with schema.def (in_order schema.def.key rows) (ok && (keep_rules schema.def rows && schema.keyed (in_order schema.def.key rows))))

  few : (rows : List Row) → length rows ≤ most_rows → ended ev schema rows ≡ ending rows (rows_pass ev schema.checks (in_order schema.def.key rows))
  few rows l = let e : nat_lt most_rows (length rows) ≡ false = le-ltb most_rows (length rows) l in rw e refl

  -- where the old rows pass the CHECKs, those of the new ones decide
  ended_by : (old new : List Row) → All (Passes ev schema.checks) old → length (old ++ new) ≤ most_rows → ended ev schema (old ++ new) ≡ ending (old ++ new) (rows_pass ev schema.checks (in_order schema.def.key new))
  ended_by old new h l = few (old ++ new) l ∙ ap (ending (old ++ new)) (passing_rows ev schema.checks schema.def.key old new h)

  pub too_many : (rows : List Row) → most_rows < length rows → ended ev schema rows ≡ Err (OfTable (codes "X0002"))
  too_many rows l = let e : nat_lt most_rows (length rows) ≡ true = lt-ltb most_rows (length rows) l in rw e refl

-- the table that the old rows are in, and new ones
module _ {E : Type 0} (ev : Evaluator E) (checks : List E) (keyed : List Row → Bool) (c : Contents) (new : List Row) (h : IsLegal ev (record { def = c.def; checks = checks; keyed = λ rows. true }) c.rows)
    (few : length c.rows + length new ≤ most_rows) where
  abbrev alone : Schema E
  alone = record { def = c.def; checks = checks; keyed = λ rows. true }

  abbrev schema : Schema E
  schema = record { def = c.def; checks = checks; keyed = keyed }

  abbrev all : List Row
  all = c.rows ++ new

  bound : length all ≤ most_rows
  bound = omega (arith, few, length-append c.rows new)

  by_checks : ended ev schema all ≡ ending ev schema all (rows_pass ev checks (in_order c.def.key new))
  by_checks = ended_by ev schema c.rows new (legal_passes ev alone c.rows h) bound

  pub ends_raised : (s : SqlState) → rows_pass ev checks (in_order c.def.key new) ≡ Err s → ended ev schema all ≡ Err (Raised s)
  ends_raised s e = by_checks ∙ ap (ending ev schema all) e

  pub ends_false : rows_pass ev checks (in_order c.def.key new) ≡ Ok false → ended ev schema all ≡ Err (OfTable (codes "23000"))
  ends_false e = by_checks ∙ ap (ending ev schema all) e

  ends_by : (b : Bool) → rows_pass ev checks (in_order c.def.key new) ≡ Ok true → (keep_rules c.def all && keyed (in_order c.def.key all)) ≡ b → ended ev schema all ≡ ended_with c.def (in_order c.def.key all) b
  ends_by b e f = by_checks ∙ ap (ending ev schema all) e ∙ ap (ended_with c.def (in_order c.def.key all)) f

  module _ (up : IsAscending c.def.key c.rows) (pass : rows_pass ev checks (in_order c.def.key new) ≡ Ok true) where
    together : AreIn new c.rows c
    together = all_in new c.rows c (sym (in_order-ascending c.def.key c.rows up)) up h.rules

    -- the rows are put in exactly where they keep the rules and all FOREIGN KEY constraints hold with them
    judged : (keep_rules c.def all && keyed (in_order c.def.key all)) ≡ (fit_in new c && keyed (with_rows new c).rows)
    judged = ap (λ b. b && keyed (in_order c.def.key all)) (sym together.rules) ∙ and_where (fit_in new c) (keyed (in_order c.def.key all)) (keyed (with_rows new c).rows) (λ e. ap keyed (sym (together.order e)))

    pub ends_broken : (fit_in new c && keyed (with_rows new c).rows) ≡ false → ended ev schema all ≡ Err (OfTable (codes "23000"))
    ends_broken e = ends_by false pass (judged ∙ e)

    pub ends_ok : (fit_in new c && keyed (with_rows new c).rows) ≡ true → ended ev schema all ≡ Ok (with_rows new c).rows
    ends_ok e = ends_by true pass (judged ∙ e) ∙ ap Ok (sym (together.order (and_parts (fit_in new c) (keyed (with_rows new c).rows) e).0))

-- rows that are put in leave the definition
pub rows_are : (rows : List Row) (c : Contents) → with_rows rows c ≡ record c { rows = (with_rows rows c).rows }
rows_are [] c = refl
rows_are (row ∷ rows) c = rows_are rows (with_row c row)
