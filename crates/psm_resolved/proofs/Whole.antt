-- The lines of an expression from the first line on are code of its letter, and evaluate to its value.
use Rattle.std.proofs.Common.{◌≡◌, ℕ, suc, Bool, true, ◌&&◌, List, [], ◌∷◌, ◌++◌, length, refl, ap, sym, subst, ◌∙◌, Some, None, Ok, Err}
use Rattle.std.specs.Prelude.{reverse}
use Rattle.std.proofs.lemmas.List.{append-nil}
use Rattle.psm_num.proofs.Literals.{and_first, and_second}
use Rattle.psm_value.specs.declared.datum.Datum.{Datum}
use Rattle.psm_exprcode.specs.declared.op.Letter.{Letter}
use Rattle.psm_exprcode.specs.declared.op.Line.{Line}
use Rattle.psm_exprcode.specs.declared.op.Op.{Op}
use Rattle.psm_exprcode.specs.Evaluated.{Outcome, ran, evaluated}
use Rattle.psm_exprcode.specs.Kinds.{some_value, some_letter}
use Rattle.psm_exprcode.specs.Operations.{effect}
use Rattle.psm_exprcode.specs.WellFormed.{is_bounded, lands, leads, is_line, are_lines, ends_with, of_any_kind, is_of_kind, is_well_formed, does_fit}
use Rattle.psm_exprcode.proofs.Standing.{both_true}
use Rattle.psm_resolved.specs.declared.expr.ResolvedExpr.{ResolvedExpr}
use Rattle.psm_resolved.specs.Blocks.{put, after}
use Rattle.psm_resolved.specs.RowValue.{row_value}
use Rattle.psm_resolved.specs.RowType.{goes_as, row_type_of}
use Rattle.psm_resolved.specs.Written.{Written, Adds, puts_value, WritesSource, IsCodeOf}
use Rattle.psm_resolved.proofs.Forms.{value_found}
use Rattle.psm_resolved.proofs.Lines.{value_some, letter_some, same_stack-self}

-- ---- lines that are right for some kinds are right for any

any_line : (may : Op → Letter → Bool) (end : Letter) (at : ℕ) (l : Line) (more : List Line) → is_line may end at l more ≡ true → is_line of_any_kind end at l more ≡ true
any_line may end at l more h =
    let ways : Letter → Letter → Bool = λ k x. leads end at (effect l.op k x) (reverse l.stack) more in
    let one : Letter → Bool = λ k. may l.op k && some_letter (ways k) in
    let any : Letter → Bool = λ k. of_any_kind l.op k && some_letter (ways k) in
    let found = value_found one (and_second (is_bounded l.op) (some_value one) h) in
    both_true (is_bounded l.op) (some_value any) (and_first (is_bounded l.op) (some_value one) h)
    (value_some any found.0 found.1 (and_second (may l.op found.0) (some_letter (ways found.0)) found.2))

any_lines : (may : Op → Letter → Bool) (end : Letter) (at : ℕ) (lines : List Line) → are_lines may end at lines ≡ true → are_lines of_any_kind end at lines ≡ true
any_lines may end at [] h = refl
any_lines may end at (l ∷ more) h =
    both_true (is_line of_any_kind end at l more) (are_lines of_any_kind end (suc at) more) (any_line may end at l more (and_first (is_line may end at l more) (are_lines may end (suc at) more) h))
    (any_lines may end (suc at) more (and_second (is_line may end at l more) (are_lines may end (suc at) more) h))

pub fits-well_formed : (columns variables : List Letter) (lines : List Line) (end : Letter) → does_fit columns variables lines end ≡ true → is_well_formed lines ≡ true
fits-well_formed columns variables lines end h =
    let first : lands end lines 0 [] ≡ true = and_first (lands end lines 0 []) (are_lines (is_of_kind columns variables) end 0 lines) h in
    let right : are_lines (is_of_kind columns variables) end 0 lines ≡ true = and_second (lands end lines 0 []) (are_lines (is_of_kind columns variables) end 0 lines) h in
    letter_some (ends_with of_any_kind lines) end (both_true (lands end lines 0 []) (are_lines of_any_kind end 0 lines) first (any_lines (is_of_kind columns variables) end 0 lines right))

-- ---- the whole code

abbrev pub nothing_written : Written
nothing_written = record { lines = []; stack = [] }

pub whole_fits : (columns variables : List Letter) (k : Letter) (e : ResolvedExpr) (w : Written) → Adds (is_of_kind columns variables) (k ∷ []) (puts_value e) nothing_written w → does_fit columns variables w.lines k ≡ true
whole_fits columns variables k e w a =
    let here : lands k [] 0 (k ∷ []) ≡ true = same_stack-self (k ∷ []) in
    let first : lands k w.lines 0 [] ≡ true = ap (λ x. lands k x 0 []) (a.added ∙ sym (append-nil a.lines)) ∙ a.block.begins k [] here in
    let right : are_lines (is_of_kind columns variables) k 0 w.lines ≡ true = ap (are_lines (is_of_kind columns variables) k 0) (a.added ∙ sym (append-nil a.lines)) ∙ a.block.right k [] here refl in
    both_true (lands k w.lines 0 []) (are_lines (is_of_kind columns variables) k 0 w.lines) first right

ended_value : (row vars : List Datum) (n : ℕ) (v : Outcome) → after (put v []) (ran row vars n n []) ≡ v
ended_value row vars n None = refl
ended_value row vars n (Some (Err state)) = refl
ended_value row vars n (Some (Ok x)) = refl

pub whole_value : (columns variables : List Letter) (k : Letter) (e : ResolvedExpr) (w : Written) → Adds (is_of_kind columns variables) (k ∷ []) (puts_value e) nothing_written w → (row vars : List Datum)
    → evaluated w.lines row vars ≡ row_value row vars e
whole_value columns variables k e w a row vars =
    ap (λ x. ran row vars 0 0 x []) (a.added ∙ sym (append-nil a.lines)) ∙ a.block.runs row vars [] [] ∙ ended_value row vars (length w.lines) (row_value row vars e)

pub whole_code : (columns variables : List Letter) (k : Letter) (e : ResolvedExpr) (w0 w1 : Written) (lines : List Line) → w0 ≡ nothing_written → lines ≡ w1.lines → goes_as k (row_type_of columns variables e) ≡ true
    → WritesSource columns variables k e w0 w1 → IsCodeOf columns variables e k lines
whole_code columns variables k e w0 w1 lines q n h x =
    let a : Adds (is_of_kind columns variables) (k ∷ []) (puts_value e) nothing_written w1 = subst (λ w. WritesSource columns variables k e w w1) q x k h in
    subst (λ ls. IsCodeOf columns variables e k ls) (sym n) (record { fits = whole_fits columns variables k e w1 a; value = λ row vars. whole_value columns variables k e w1 a row vars })

pub whole_well_formed : (columns variables : List Letter) (k : Letter) (e : ResolvedExpr) (w0 w1 : Written) (lines : List Line) → w0 ≡ nothing_written → lines ≡ w1.lines → goes_as k (row_type_of columns variables e) ≡ true
    → WritesSource columns variables k e w0 w1 → is_well_formed lines ≡ true
whole_well_formed columns variables k e w0 w1 lines q n h x = fits-well_formed columns variables lines k (whole_code columns variables k e w0 w1 lines q n h x).fits
