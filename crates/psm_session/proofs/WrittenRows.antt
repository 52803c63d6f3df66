-- The rows that a query selects, written one by one.
use Rattle.std.proofs.Common.{◌≡◌, ◌<◌, ℕ, ◌+◌, true, false, nat_eq, length, length-append, arith, subst, List, [], ◌∷◌, ◌++◌, append_assoc, refl, ap, sym, ◌∙◌, Option, Some, None, Result, Ok, Err}
use Rattle.std.specs.Prelude.{codes, slice_get, if◌then◌else◌}
use Rattle.std.specs.List.{cons_option}
use Rattle.std.proofs.lemmas.Bool.Decides.{nat_tests}
use Rattle.std.proofs.lemmas.List.{append-nil}
use Rattle.psm_sqlstate.specs.declared.state.SqlState.{SqlState}
use Rattle.psm_value.specs.Answer.{Gives}
use Rattle.psm_value.specs.declared.datum.Datum.{Datum}
use Rattle.psm_value.specs.declared.fault.ValueFault.{ValueFault}
use Rattle.psm_value.specs.declared.fault.ValueFault.TheVariants.{Condition, Memory}
use Rattle.psm_value.specs.declared.truth.Truth.{Truth}
use Rattle.psm_exprcode.specs.declared.items.Items.TheVariants.{Rows}
use Rattle.psm_exprcode.specs.declared.op.Line.{Line}
use Rattle.psm_exprcode.specs.declared.query.Query.{Query}
use Rattle.psm_table.specs.Evaluator.{mapped, test_of}
use Rattle.psm_table.specs.Queries.{answer, answered, in_walk, taken, walked, Answer}
use Rattle.psm_tablecode.specs.Codes.{items_of, over, query_of}
use Rattle.psm_tablecode.specs.Rows.{values_for}
use Rattle.psm_tablecode.proofs.WalkLaws as walk
use Rattle.psm_meaning.specs.Acts.{of_state}
use Rattle.psm_meaning.specs.Lines.{condition_lines, ok_line, row_line, row_lines, values}
use Rattle.psm_session.specs.Pieces.{selected_lines}
use Rattle.psm_session.specs.Selected.{end_of_selected, found_rows, taken_line, Shows, Writes}

abbrev with_lines : List ℕ → List (List Datum) → List ℕ
with_lines out rows = out ++ row_lines rows

abbrev with_line : List ℕ → Option (List Datum) → List ℕ
with_line out o = out ++ taken_line o

pub lines_after : (out : List ℕ) (o : Option (List Datum)) (more : List (List Datum)) → with_lines out (cons_option o more) ≡ with_lines (with_line out o) more
lines_after out None more = ap (λ l. l ++ row_lines more) (sym (append-nil out))
lines_after out (Some row) more = sym (append_assoc out (row_line row) (row_lines more))

module _ (start : List ℕ) (test : List Datum → Result Truth SqlState) (take : List Datum → Result (List Datum) SqlState) (order : List (List Datum)) where
  abbrev pub Due : Result (List ℕ) SqlState
  Due = mapped (with_lines start) (walked test take order)

  -- with what is written, the lines of the other rows come to those of all rows
  abbrev pub Goes : ℕ → List ℕ → Type 0
  Goes = walk.Goes with_lines with_line lines_after test take order Due

  pub goes_next : (at : ℕ) (row : List Datum) (o : Option (List Datum)) (now later : List ℕ) → slice_get order at ≡ Some row → taken test take row ≡ Ok o → later ≡ now ++ taken_line o → Goes at now → Goes (at + 1) later
  goes_next = walk.goes_next with_lines with_line lines_after test take order Due

  pub goes_fault : (at : ℕ) (row : List Datum) (fault : ValueFault) (now : List ℕ) → slice_get order at ≡ Some row → Gives (taken test take row) (Err fault) → Goes at now → Gives Due (Err fault)
  goes_fault = walk.goes_fault with_lines with_line lines_after test take order Due

  pub goes_end : (at : ℕ) (now : List ℕ) → slice_get order at ≡ None → Goes at now → Due ≡ Ok now
  goes_end at now e h = walk.goes_end with_lines with_line lines_after test take order Due at now e h ∙ ap Ok (append-nil now)

-- ---- the piece

abbrev found : List (List Datum) → Answer
found rows = record { rows = rows; skipped = false }

itself : (n : ℕ) → nat_eq n n ≡ true
itself n = grind (arith, nat_tests)

longer : (m n : ℕ) → n < m → nat_eq m n ≡ false
longer m n h = grind (arith, nat_tests, h)

-- where lines are written, the rows are there; the last line is that of the answer
pub rows_piece : (first out : List ℕ) (taken : Result (List (List Datum)) SqlState) → mapped (with_lines first) taken ≡ Ok out
    → out ++ end_of_selected (length first) (length out) ≡ first ++ selected_lines (mapped found taken)
rows_piece first out (Ok []) e =
    let none : first ++ [] ≡ out = cc in
    subst (λ o. o ++ end_of_selected (length first) (length o) ≡ first ++ condition_lines (of_state (codes "02000"))) (sym (append-nil first) ∙ none)
    (ap (λ b. first ++ (if b then condition_lines (of_state (codes "02000")) else ok_line)) (itself (length first)))
rows_piece first out (Ok (row ∷ rows)) e =
    let some : first ++ row_lines (row ∷ rows) ≡ out = cc in
    let more : length first < length out =
    omega (arith, ap length some, length-append first (row_lines (row ∷ rows)), length-append (row_line row) (row_lines rows), length-append (codes "ROW " ++ values row) (10 ∷ [])) in
    ap (λ b. out ++ (if b then condition_lines (of_state (codes "02000")) else ok_line)) (longer (length out) (length first) more)
    ∙ ap (λ o. o ++ ok_line) (sym some) ∙ append_assoc first (row_lines (row ∷ rows)) ok_line
rows_piece first out (Err s) e = cc

pub fault_piece : (first piece : List ℕ) (taken : Result (List (List Datum)) SqlState) (fault : ValueFault) → Writes (mapped (with_lines first) taken) piece (Err fault) → (shown : List ℕ) → Shows first fault shown
    → shown ≡ first ++ selected_lines (mapped found taken)
fault_piece first piece (Ok rows) (Condition s) e shown h = cc
fault_piece first piece (Err t) (Condition s) e shown h = let same : t ≡ s = cc in h ∙ ap (λ x. first ++ condition_lines (of_state x)) (sym same)
fault_piece first piece taken Memory e shown h = absurd h

-- ---- the answer

-- without set functions the answer is what is taken of the rows
pub found_is : (q : Query) (exprs : List (List Line)) (rows : List (List Datum)) → q.items ≡ Rows exprs → answer (over []) (query_of q) rows ≡ found_rows [] q rows
found_is q exprs rows e =
    let order = in_walk q.downward rows in
    subst (λ i. answered (over []) q.test (items_of i) order ≡ mapped found (walked (test_of (over []) q.test) (values_for [] i) order)) (sym e) refl
