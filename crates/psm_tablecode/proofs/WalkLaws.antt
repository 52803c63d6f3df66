-- A walk over rows with what is kept from row to row.
use Rattle.std.proofs.Common.{◌≡◌, ℕ, zero, suc, ◌+◌, List, [], ◌∷◌, drop, refl, ap, sym, subst, ◌∙◌, Option, Some, None, Result, Ok, Err}
use Rattle.std.specs.Prelude.{slice_get}
use Rattle.std.specs.List.{cons_option}
use Rattle.std.proofs.lemmas.Option.{get_or_from_slice_get, slice_get_within}
use Rattle.psm_sqlstate.specs.declared.state.SqlState.{SqlState}
use Rattle.psm_value.specs.Answer.{Gives}
use Rattle.psm_value.specs.declared.datum.Datum.{Datum}
use Rattle.psm_value.specs.declared.fault.ValueFault.{ValueFault}
use Rattle.psm_value.specs.declared.fault.ValueFault.TheVariants.{Condition, Memory}
use Rattle.psm_value.specs.declared.truth.Truth.{Truth}
use Rattle.psm_table.specs.Evaluator.{and_then, mapped}
use Rattle.psm_table.specs.Queries.{taken, walked}
use Rattle.psm_tablecode.proofs.Collecting.{first_of}

-- `all` is what comes of what is kept and of all that is still taken, `next` is what is kept after a row
module _ {A G H : Type 0} (all : G → List A → H) (next : G → Option A → G) (goes_on : (g : G) (o : Option A) (more : List A) → all g (cons_option o more) ≡ all (next g o) more)
    (test : List Datum → Result Truth SqlState) (take : List Datum → Result A SqlState) (order : List (List Datum)) (expected : Result H SqlState) where
  -- with what is kept, the rest of the walk evaluates to what is expected
  abbrev pub Goes : ℕ → G → Type 0
  Goes at now = mapped (all now) (walked test take (drop at order)) ≡ expected

  all_after : (now : G) (o : Option A) (r : Result (List A) SqlState) → mapped (all now) (mapped (λ more. cons_option o more) r) ≡ mapped (all (next now o)) r
  all_after now o (Ok more) = ap Ok (goes_on now o more)
  all_after now o (Err s) = refl

  rest_is : (at : ℕ) (row : List Datum) → slice_get order at ≡ Some row → walked test take (drop at order) ≡ and_then (taken test take row) (λ a. mapped (λ more. cons_option a more) (walked test take (drop (at + 1) order)))
  rest_is at row e = ap (walked test take) (first_of order at row (slice_get_within order at row e) (sym (get_or_from_slice_get order at row row e)))

  pub goes_next : (at : ℕ) (row : List Datum) (o : Option A) (now later : G) → slice_get order at ≡ Some row → taken test take row ≡ Ok o → later ≡ next now o → Goes at now → Goes (at + 1) later
  goes_next at row o now later e t n h =
      subst (Goes (at + 1)) (sym n)
      (sym (all_after now o (walked test take (drop (at + 1) order)))
      ∙ sym (ap (λ r. mapped (all now) (and_then r (λ a. mapped (λ more. cons_option a more) (walked test take (drop (at + 1) order))))) t)
      ∙ sym (ap (mapped (all now)) (rest_is at row e)) ∙ h)

  raised : (at : ℕ) (row : List Datum) (s : SqlState) (now : G) → slice_get order at ≡ Some row → taken test take row ≡ Err s → Goes at now → expected ≡ Err s
  raised at row s now e t h =
      sym h ∙ ap (mapped (all now)) (rest_is at row e)
      ∙ ap (λ r. mapped (all now) (and_then r (λ a. mapped (λ more. cons_option a more) (walked test take (drop (at + 1) order))))) t

  pub goes_fault : (at : ℕ) (row : List Datum) (fault : ValueFault) (now : G) → slice_get order at ≡ Some row → Gives (taken test take row) (Err fault) → Goes at now → Gives expected (Err fault)
  goes_fault at row (Condition s) now e t h = raised at row s now e t h
  goes_fault at row Memory now e t h = tt

  past : (rows : List (List Datum)) (i : ℕ) → slice_get rows i ≡ None → drop i rows ≡ []
  past [] zero e = refl
  past [] (suc i) e = refl
  past (r ∷ rows) zero e = cc
  past (r ∷ rows) (suc i) e = past rows i e

  pub goes_end : (at : ℕ) (now : G) → slice_get order at ≡ None → Goes at now → expected ≡ Ok (all now [])
  goes_end at now e h = sym h ∙ ap (λ l. mapped (all now) (walked test take l)) (past order at e)
