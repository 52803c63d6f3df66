-- How statements end.
use Rattle.std.proofs.Common.{◌≡◌, ℕ, List, refl, sym, subst, Some, Result, Ok, Err}
use Rattle.std.specs.Prelude.{IfSome, slice_get, slice_set}
use Rattle.psm_sqlstate.specs.declared.state.SqlState.{SqlState}
use Rattle.psm_cond.specs.declared.fault.DataFault.{DataFault}
use Rattle.psm_cond.specs.declared.fault.DataFault.TheVariants as reported_as
use Rattle.psm_value.specs.Answer.{Gives}
use Rattle.psm_value.specs.declared.datum.Datum.{Datum}
use Rattle.psm_value.specs.declared.fault.ValueFault.{ValueFault}
use Rattle.psm_value.specs.declared.fault.ValueFault.TheVariants.{Condition, Memory}
use Rattle.psm_table.specs.Changing.{Changed, Failure, OfTable, Raised}
use Rattle.psm_table.specs.Table.{Contents}
use Rattle.psm_tablecode.specs.Faults.{Reports}
use Rattle.psm_dml.specs.Ends.{Bears, Ends, IsExpected}

pub gives_err : {A : Type 0} (r : Result A SqlState) (fault : ValueFault) (s : SqlState) → fault ≡ Condition s → Gives r (Err fault) → r ≡ Err s
gives_err r fault s e g = subst (λ f. Gives r (Err f)) e g

module _ (old new : List Contents) (t : ℕ) (c : Contents) (expected : Contents → Result Changed Failure) (here : slice_get old t ≡ Some c) where
  abbrev Answer : Result ℕ DataFault → Type 0
  Answer result = IfSome (slice_get old t) (λ x. Ends x (expected x) old t new result)

  at_c : (result : Result ℕ DataFault) → Ends c (expected c) old t new result → Answer result
  at_c result h = subst (λ o. IfSome o (λ x. Ends x (expected x) old t new result)) (sym here) h

  -- it is done
  pub ends_done : (rows : List (List Datum)) (n : ℕ) → expected c ≡ Ok (record { rows = rows; count = n }) → new ≡ slice_set old t (record c { rows = rows }) → Answer (Ok n)
  ends_done rows n e f = at_c (Ok n) (rows, e, f)

  -- an expression raises a condition
  pub reported : (fault : ValueFault) (reported : DataFault) → ((s : SqlState) → fault ≡ Condition s → expected c ≡ Err (Raised s)) → Reports fault reported → new ≡ old → Ends c (expected c) old t new (Err reported)
  reported (Condition s) (reported_as.Raised condition) h g f = (subst (λ d. IsExpected c.def d condition) (sym (h s refl)) g, f)
  reported (Condition s) reported_as.Memory h g f = f
  reported Memory (reported_as.Raised condition) h g f = absurd g
  reported Memory reported_as.Memory h g f = f

  pub ends_reported : (fault : ValueFault) (what : DataFault) → ((s : SqlState) → fault ≡ Condition s → expected c ≡ Err (Raised s)) → Reports fault what → new ≡ old → Answer (Err what)
  ends_reported fault what h g f = at_c (Err what) (reported fault what h g f)

  -- a condition of the table
  pub borne : (state : List ℕ) (what : DataFault) → expected c ≡ Err (OfTable state) → Bears state c.def what → new ≡ old → Ends c (expected c) old t new (Err what)
  borne state (reported_as.Raised condition) e g f = (subst (λ d. IsExpected c.def d condition) (sym e) g, f)
  borne state reported_as.Memory e g f = f

  pub ends_borne : (state : List ℕ) (what : DataFault) → expected c ≡ Err (OfTable state) → Bears state c.def what → new ≡ old → Answer (Err what)
  ends_borne state what e g f = at_c (Err what) (borne state what e g f)
