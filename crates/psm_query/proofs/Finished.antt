-- What was kept after the last row evaluates to the answer.
use Rattle.std.proofs.Common.{◌≡◌, List, [], ◌∷◌, ◌++◌, append_assoc, refl, ap, sym, ◌∙◌, Option, Result, Ok, Err}
use Rattle.std.specs.Prelude.{map, false}
use Rattle.psm_sqlstate.specs.declared.state.SqlState.{SqlState}
use Rattle.std.proofs.lemmas.List.{append-nil}
use Rattle.psm_value.specs.Answer.{Gives}
use Rattle.psm_value.specs.declared.datum.Datum.{Datum}
use Rattle.psm_value.specs.declared.fault.ValueFault.{ValueFault}
use Rattle.psm_exprcode.specs.declared.aggregate.Aggregate.{Aggregate}
use Rattle.psm_exprcode.specs.declared.items.Items.{Items}
use Rattle.psm_exprcode.specs.declared.items.Items.TheVariants.{Rows, Sets}
use Rattle.psm_exprcode.specs.declared.op.Line.{Line}
use Rattle.psm_table.specs.Evaluator.{and_then, mapped, test_of}
use Rattle.psm_table.specs.Queries as q
use Rattle.psm_table.specs.Queries.{Answer, answered, has_nulls, walked}
use Rattle.psm_tablecode.specs.Codes.{items_of, over, set_of}
use Rattle.psm_query.specs.Gathered.{Gathered, finished, nothing, with_rows}
use Rattle.psm_tablecode.specs.Rows.{values_for}
use Rattle.psm_tablecode.proofs.Results.{gives_by, gives_first}
use Rattle.psm_query.proofs.Tallied.{finish-tallies, kept-all}

rows-more : (codes : List (List Line)) (g : Gathered) (more : List (List Datum)) → (with_rows (Rows codes) g more).rows ≡ g.rows ++ more
rows-more codes g [] = sym (append-nil g.rows)
rows-more codes g (vs ∷ more) = rows-more codes (record { rows = g.rows ++ vs ∷ []; tallies = g.tallies; skipped = g.skipped }) more ∙ append_assoc g.rows (vs ∷ []) more

rows-answer : (codes : List (List Line)) (w : Result (List (List Datum)) SqlState)
    → mapped (λ found. record { rows = found; skipped = false }) w ≡ and_then (mapped (with_rows (Rows codes) (nothing (Rows codes))) w) (finished (Rows codes))
rows-answer codes (Ok found) = ap (λ (rows : List (List Datum)). Ok (record { rows = rows; skipped = false })) (sym (rows-more codes (nothing (Rows codes)) found))
rows-answer codes (Err s) = refl

sets-answer : (sets : List Aggregate) (w : Result (List (List Datum)) SqlState)
    → and_then w (λ found. mapped (λ vs. record { rows = vs ∷ []; skipped = has_nulls found }) (q.finished found 0 (map set_of sets))) ≡ and_then (mapped (with_rows (Sets sets) (nothing (Sets sets))) w) (finished (Sets sets))
sets-answer sets (Ok found) =
    ap (mapped (λ vs. record { rows = vs ∷ []; skipped = has_nulls found })) (sym (finish-tallies sets 0 found)) ∙ ap (finished (Sets sets)) (sym (kept-all sets found))
sets-answer sets (Err s) = refl

-- the answer is what is kept after all rows, finished
pub answer-is : (vars : List Datum) (test : Option (List Line)) (items : Items) (order : List (List Datum))
    → answered (over vars) test (items_of items) order ≡ and_then (mapped (with_rows items (nothing items)) (walked (test_of (over vars) test) (values_for vars items) order)) (finished items)
answer-is vars test (Rows codes) order = rows-answer codes (walked (test_of (over vars) test) (values_for vars (Rows codes)) order)
answer-is vars test (Sets sets) order = sets-answer sets (walked (test_of (over vars) test) (values_for vars (Sets sets)) order)

module _ (vars : List Datum) (test : Option (List Line)) (items : Items) (order : List (List Datum)) where
  abbrev Kept : Result Gathered SqlState
  Kept = mapped (with_rows items (nothing items)) (walked (test_of (over vars) test) (values_for vars items) order)

  pub answer_finished : (g : Gathered) (r : Result Answer ValueFault) → Kept ≡ Ok g → Gives (finished items g) r → Gives (answered (over vars) test (items_of items) order) r
  answer_finished g r k h = gives_by (answered (over vars) test (items_of items) order) (finished items g) r (answer-is vars test items order ∙ ap (λ w. and_then w (finished items)) k) h

  pub answer_fault : (fault : ValueFault) → Gives Kept (Err fault) → Gives (answered (over vars) test (items_of items) order) (Err fault)
  answer_fault fault k = gives_by (answered (over vars) test (items_of items) order) (and_then Kept (finished items)) (Err fault) (answer-is vars test items order) (gives_first Kept (finished items) fault k)
