-- How a run goes on, and how it ends.
use Rattle.std.proofs.Common.{◌≡◌, ℕ, suc, ◌+◌, true, false, List, refl, ap, sym, subst, ◌∙◌, arith, None, Result, Ok, Err, IfOk}
use Rattle.std.specs.declared.alloc.AllocError.{AllocError}
use Rattle.psm_value.specs.declared.datum.Datum.{Datum}
use Rattle.psm_table.specs.Table.{Contents}
use Rattle.psm_code.specs.declared.code.RawCode.{RawCode}
use Rattle.psm_code.specs.Calling.{started}
use Rattle.psm_code.specs.RoutineRules.{first_fault}
use Rattle.psm_code.specs.Run.{step, steps, step_on}
use Rattle.psm_code.specs.MachineInvariant.{AreLawful, MachineInvariant, StaysWellFormed, is_due}
use Rattle.psm_code.specs.State.{Machine, Stepped, More, Over}
use Rattle.psm_code.proofs.Ending.{rows-more}
use Rattle.psm_code.proofs.NeverStuck.{step_well_formed, run_well_formed}
use Rattle.psm_termination.specs.Measure.{shape}
use Rattle.psm_termination.proofs.Falling.{FallsTo}
use Rattle.psm_termination.proofs.Rows.{step_falls}
use Rattle.psm_unwind.specs.declared.ending.Ending.{Ending}
use Rattle.psm_unwind.specs.declared.ending.Ending.TheVariants as ending
use Rattle.psm_unwind.specs.declared.ending.Outcome.{Outcome}
use Rattle.psm_unwind.specs.declared.ending.Outcome.TheVariants as outcome
use Rattle.psm_unwind.specs.View.{LeadsTo, end_of}
use Rattle.psm_machine.specs.declared.running.Finished.{Finished}
use Rattle.psm_machine.specs.Running.{Finishes, RunsTo, Takes, following, leaves_tables, stays_after}

more_of : (t : Stepped) (now : Machine) → LeadsTo t outcome.More now → t ≡ More now
more_of (More m) now h = ap More h
more_of (Over e m) now h = absurd h

-- a row that goes on
pub leads_more : (t : Stepped) (o : Outcome) (now : Machine) → o ≡ outcome.More → LeadsTo t o now → t ≡ More now
leads_more t o now e h = more_of t now (subst (λ (x : Outcome). LeadsTo t x now) e h)

module _ (code : RawCode) (well_formed_code : first_fault code ≡ None) (from : Stepped) (f : Finished) (tables : List Contents) where
  over_of : (k : ℕ) (m now : Machine) (t : Stepped) → MachineInvariant code m → step code m ≡ t → steps code k from ≡ More m → m.turns ≡ f.turns → now.tables ≡ tables → LeadsTo t (outcome.Over f.ending) now → Finishes code from f tables
  over_of k m now (More n) s e r l q h = absurd h
  over_of k m now (Over x n) s e r l q h =
      let one : suc k ≡ k + 1 = omega arith in
      record {
        count = suc k;
        last = n;
        leads = ap (λ j. steps code j from) one ∙ rows-more code k 1 from ∙ ap (step_on code) r ∙ e ∙ ap (λ y. Over y n) h.0;
        left = sym (subst (FallsTo code (shape m)) e (step_falls code well_formed_code m s) ∙ l);
        tables_left = ap (λ (x : Machine). x.tables) h.1 ∙ q;
      }

  -- a row that is the last one
  pub finishes_over : (k : ℕ) (m now : Machine) (o : Outcome) → MachineInvariant code m → steps code k from ≡ More m → o ≡ outcome.Over f.ending → m.turns ≡ f.turns → now.tables ≡ tables → LeadsTo (step code m) o now → Finishes code from f tables
  finishes_over k m now o s r e l q h = over_of k m now (step code m) s refl r l q (subst (λ (x : Outcome). LeadsTo (step code m) x now) e h)

-- a run that is over before its first row
module _ (code : RawCode) (from : Stepped) (f : Finished) (tables : List Contents) where
  pub finishes_at_once : (last : Machine) → from ≡ Over (end_of f.ending) last → last.turns ≡ f.turns → last.tables ≡ tables → Finishes code from f tables
  finishes_at_once last e l q = record {
    count = 1;
    last = last;
    leads = ap (step_on code) e;
    left = sym l;
    tables_left = q;
  }

-- a run that has gone so far goes on by a row
pub goes_further : (code : RawCode) (from : Stepped) (k : ℕ) (m now : Machine) → steps code k from ≡ More m → step code m ≡ More now → steps code (k + 1) from ≡ More now
goes_further code from k m now r e = rows-more code k 1 from ∙ ap (step_on code) r ∙ e

pub machine_invariant_further : (code : RawCode) → first_fault code ≡ None → (m now : Machine) → MachineInvariant code m → step code m ≡ More now → MachineInvariant code now
machine_invariant_further code well_formed_code m now h e = subst (StaysWellFormed code) e (step_well_formed code well_formed_code m h)

-- ---- the tables after a run

stays : (e : Ending) (found last : List Contents) → stays_after e ≡ true → following (end_of e) found last ≡ last
stays (ending.Ended ds) found last h = refl
stays (ending.Raised c) found last h = refl
stays ending.NoTurns found last h = cc
stays ending.Stuck found last h = cc

goes : (e : Ending) (found last : List Contents) → stays_after e ≡ false → following (end_of e) found last ≡ found
goes (ending.Ended ds) found last h = cc
goes (ending.Raised c) found last h = cc
goes ending.NoTurns found last h = refl
goes ending.Stuck found last h = refl

module _ (code : RawCode) (n : ℕ) (args : List Datum) (turns : ℕ) (found entry now : List Contents) (same : entry ≡ found) where
  from_there : (f : Finished) → Finishes code (started code n args entry turns) f now → Finishes code (started code n args found turns) f now
  from_there f h = subst (λ (t : List Contents). Finishes code (started code n args t turns) f now) same h

  runs : (f : Finished) (after : List Contents) → Finishes code (started code n args found turns) f now → ((last : List Contents) → last ≡ now → after ≡ following (end_of f.ending) found last) → RunsTo code n args found turns f after
  runs f after h t = record { last = h.last; ran = record { count = h.count; leads = h.leads }; left = h.left; tables = t h.last.tables h.tables_left }

  -- what the run did stays
  pub runs_on : (r : Result Finished AllocError) (after : List Contents) → IfOk r (λ f. Finishes code (started code n args entry turns) f now) → leaves_tables r ≡ true → after ≡ now → IfOk r (λ f. RunsTo code n args found turns f after)
  runs_on (Ok f) after h l e = runs f after (from_there f h) (λ last q. e ∙ sym q ∙ sym (stays f.ending found last l))
  runs_on (Err x) after h l e = tt

  -- what the run did is taken back
  pub runs_back : (r : Result Finished AllocError) (after : List Contents) → IfOk r (λ f. Finishes code (started code n args entry turns) f now) → leaves_tables r ≡ false → after ≡ found → IfOk r (λ f. RunsTo code n args found turns f after)
  runs_back (Ok f) after h l e = runs f after (from_there f h) (λ last q. e ∙ sym (goes f.ending found last l))
  runs_back (Err x) after h l e = tt

  module _ (well_formed_code : first_fault code ≡ None) (t : Takes code n args) (k : AreLawful code found) where
    ends_well_formed : (f : Finished) → Finishes code (started code n args entry turns) f now → (is_due (end_of f.ending) ≡ true) × AreLawful code now
    ends_well_formed f h =
        let there = from_there f h in
        let expected = run_well_formed code well_formed_code n t.routine t.there args found turns t.many k (end_of f.ending) there.last (record { count = there.count; leads = there.leads }) in
        (expected.0, subst (AreLawful code) there.tables_left expected.1)

    pub ends_expected : (r : Result Finished AllocError) → IfOk r (λ f. Finishes code (started code n args entry turns) f now) → IfOk r (λ f. is_due (end_of f.ending) ≡ true)
    ends_expected (Ok f) h = (ends_well_formed f h).0
    ends_expected (Err x) h = tt

    pub kept_on : (r : Result Finished AllocError) → IfOk r (λ f. Finishes code (started code n args entry turns) f now) → leaves_tables r ≡ true → AreLawful code now
    kept_on (Ok f) h l = (ends_well_formed f h).1
    kept_on (Err x) h l = cc
