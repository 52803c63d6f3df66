-- The first row that meets a test, of those after a key.
use Rattle.std.proofs.Common.{◌≡◌, Bool, true, false, List, [], ◌∷◌, ap, sym, subst, ◌∙◌, Option, Some, None, Result, Ok, Err}
use Rattle.std.specs.Prelude.{All, if◌then◌else◌}
use Rattle.std.proofs.lemmas.List.Elements.{All-head, All-tail}
use Rattle.psm_sqlstate.specs.declared.state.SqlState.{SqlState}
use Rattle.psm_value.specs.Answer.{Gives}
use Rattle.psm_value.specs.declared.datum.Datum.{Datum}
use Rattle.psm_value.specs.declared.fault.ValueFault.{ValueFault}
use Rattle.psm_value.specs.declared.fault.ValueFault.TheVariants.{Condition, Memory}
use Rattle.psm_value.specs.declared.truth.Truth.{Truth}
use Rattle.psm_table.specs.Cursors.{first_met, rows_past}
use Rattle.psm_table.specs.Definition.{IsRow}
use Rattle.psm_table.specs.Evaluator.{and_then, mapped}
use Rattle.psm_table.specs.Queries.{is_met}
use Rattle.psm_table.specs.Table.{Contents}
use Rattle.psm_cursor.specs.Fetching.{Finds}

-- no row before those that are left meets the test
pub record Meeting (t : Contents) (test : List Datum → Result Truth SqlState) (downward : Bool) (bound : Option (List Datum)) (left : List (List Datum)) : Type 0 where
  pub same : first_met test left ≡ first_met test (rows_past t.def.key downward bound t.rows)
  pub fit : All (IsRow t.def) left

module _ (test : List Datum → Result Truth SqlState) (row : List Datum) (rows : List (List Datum)) where
  found_of : (r : Result Truth SqlState) (b : Bool) → mapped is_met r ≡ Ok b → and_then r (λ met. if is_met met then Ok (Some row) else first_met test rows) ≡ (if b then Ok (Some row) else first_met test rows)
  found_of (Ok t) b e = let same : is_met t ≡ b = cc in ap (λ (m : Bool). if m then Ok (Some row) else first_met test rows) same
  found_of (Err s) b e = absurd cc

  -- the row that meets the test is the first; one that doesn't is passed over
  pub found : mapped is_met (test row) ≡ Ok true → first_met test (row ∷ rows) ≡ Ok (Some row)
  found e = found_of (test row) true e

  pub passed : mapped is_met (test row) ≡ Ok false → first_met test (row ∷ rows) ≡ first_met test rows
  passed e = found_of (test row) false e

  raised : (r : Result Truth SqlState) (s : SqlState) → mapped is_met r ≡ Err s → and_then r (λ met. if is_met met then Ok (Some row) else first_met test rows) ≡ Err s
  raised (Ok t) s e = absurd cc
  raised (Err q) s e = let same : q ≡ s = cc in ap Err same

  pub found_fault : (fault : ValueFault) → Gives (mapped is_met (test row)) (Err fault) → Finds (first_met test (row ∷ rows)) (Err fault)
  found_fault (Condition s) e = raised (test row) s e
  found_fault Memory e = tt

module _ (t : Contents) (test : List Datum → Result Truth SqlState) (downward : Bool) (bound : Option (List Datum)) (rows : List (List Datum)) (m : Meeting t test downward bound rows) where
  abbrev expected : Result (Option (List Datum)) SqlState
  expected = first_met test (rows_past t.def.key downward bound t.rows)

  -- without a row no row meets it
  pub meets_none : rows ≡ [] → expected ≡ Ok None
  meets_none e = sym m.same ∙ ap (first_met test) e

  module _ (row : List Datum) (left : List (List Datum)) (here : rows ≡ row ∷ left) where
    next : first_met test (row ∷ left) ≡ expected
    next = sym (ap (first_met test) here) ∙ m.same

    fit : All (IsRow t.def) (row ∷ left)
    fit = subst (All (IsRow t.def)) here m.fit

    pub next_fits : IsRow t.def row
    next_fits = All-head (IsRow t.def) row left fit

    pub meets_next : mapped is_met (test row) ≡ Ok true → expected ≡ Ok (Some row)
    meets_next e = sym next ∙ found test row left e

    pub passes_next : mapped is_met (test row) ≡ Ok false → Meeting t test downward bound left
    passes_next e = record { same = sym (passed test row left e) ∙ next; fit = All-tail (IsRow t.def) row left fit }

    pub meets_fault : (fault : ValueFault) → Gives (mapped is_met (test row)) (Err fault) → Finds expected (Err fault)
    meets_fault fault g = subst (λ (r : Result (Option (List Datum)) SqlState). Finds r (Err fault)) next (found_fault test row left fault g)
