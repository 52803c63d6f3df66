-- Actions that end, whose frame is the innermost one.
use Rattle.std.proofs.Common.{◌≡◌, ℕ, Bool, true, false, nat_eq, List, [], ◌∷◌, Option, Some, None, Result, Err, IsErrAnd, if◌then◌else◌, refl, ap, sym, subst, ◌∙◌}
use Rattle.psm_cond.specs.Area.{Diagnostics}
use Rattle.psm_cond.specs.declared.handlers.Handler.{Handler}
use Rattle.psm_exprcode.specs.declared.operand.Next.{Next}
use Rattle.psm_table.specs.Table.{Contents}
use Rattle.psm_store.specs.declared.store.Mark.{Mark}
use Rattle.psm_code.specs.declared.code.RawRoutine.{RawRoutine}
use Rattle.psm_code.specs.Parts.{handler_at}
use Rattle.psm_code.specs.Run.{Successor, act_ended, action_ended, line_after, with_frames}
use Rattle.psm_code.specs.Run as rows
use Rattle.psm_code.specs.State as code
use Rattle.psm_code.specs.State.{put_back}
use Rattle.psm_code.specs.Steps.{Act, Came, Got, ends, go_on}
use Rattle.psm_unwind.specs.declared.run.Frame.{Frame}
use Rattle.psm_unwind.specs.declared.run.Frame.TheVariants.{Block, Action}
use Rattle.psm_unwind.specs.Actions.{after_action, is_action}
use Rattle.psm_unwind.specs.View.{frames_of}
use Rattle.psm_machine.specs.declared.stop.Stop.{Stop}
use Rattle.psm_machine.specs.declared.stop.Stop.TheVariants as stop
use Rattle.psm_machine.specs.ActResults.{Evaluates}
use Rattle.psm_machine.specs.Successors.{GoesTo, bare, resume_of}
use Rattle.psm_machine.proofs.ActSequences.{err_is, stopped}

-- ---- what stops a part stops the instruction

goes_of : (came : Came Successor) (s : Stop) (now : code.Machine) → Evaluates came (Err s) now → GoesTo came (Err s) now
goes_of came (stop.Raises c) now h = (ap (λ (x : Came Successor). x.given) h, ap (λ (x : Came Successor). bare x.machine) h)
goes_of came stop.NoTurns now h = h
goes_of came stop.Stuck now h = h
goes_of came stop.Memory now h = h

pub stopped_goes : {A : Type 0} (came : Came A) (go : A → Act Successor) (now : code.Machine) (s : Stop) (r : Result Next Stop) → IsErrAnd r (λ e. e ≡ s) → Evaluates came (Err s) now → GoesTo (go_on came.given go came.machine) r now
stopped_goes came go now s r e h =
    let all : Result Successor Stop = Err s in
    subst (λ x. GoesTo (go_on came.given go came.machine) x now) (sym (err_is r s e)) (goes_of (go_on came.given go came.machine) s now (stopped came go now s all refl h))

-- ---- the innermost frame

abbrev or_some : Option ℕ → Option (Option ℕ) → Option ℕ
or_some d None = d
or_some d (Some r) = r

-- the innermost frame is that of the action, whose handler was activated with this area, and these are the others
pub record Acts (n : ℕ) (resume : Option ℕ) (frames : List Frame) : Type 0 where
  pub area : Diagnostics
  pub rest : List Frame
  pub action : is_action frames ≡ true
  pub ended : (r : RawRoutine) (at : Mark → List Contents) (m : code.Machine) → action_ended r n (frames_of at frames) m ≡ act_ended r n resume area (frames_of at rest) m
  pub after : (at : Mark → List Contents) (m : code.Machine) → put_back area (with_frames (frames_of at rest) m) ≡ after_action (frames_of at frames) m

same_one : (n l : ℕ) (resume other : Option ℕ) (b : Bool) → Some resume ≡ (if b then Some other else None) → (b ≡ true) × (other ≡ resume)
same_one n l resume other true e = (refl, sym (ap (or_some other) e))
same_one n l resume other false e = cc

acting_first : (n : ℕ) (resume : Option ℕ) (frames : List Frame) (at : Mark → List Contents) → Some resume ≡ resume_of n (frames_of at frames) → Acts n resume frames
acting_first n resume [] at e = cc
acting_first n resume (Block k found ∷ frames) at e = cc
acting_first n resume (Action l other c rows ∷ frames) at e =
    let same = same_one n l resume other (nat_eq n l) e in
    let area : Diagnostics = record { entries = c; rows = rows } in
    record {
      area = area;
      rest = frames;
      action = refl;
      ended = λ r at m.
          ap (λ b. (if b then act_ended r n other area (frames_of at frames) else ends code.Stuck) m) same.0
          ∙ ap (λ o. act_ended r n o area (frames_of at frames) m) same.1;
      after = λ at m. refl;
    }

pub acting : (n : ℕ) (resume : Option ℕ) (frames : List Frame) → ((at : Mark → List Contents) → Some resume ≡ resume_of n (frames_of at frames)) → Acts n resume frames
acting n resume frames e = acting_first n resume frames (λ m. []) (e (λ m. []))

no_action : (r : RawRoutine) (n : ℕ) (frames : List code.Frame) (m : code.Machine) → None ≡ resume_of n frames → action_ended r n frames m ≡ ends code.Stuck m
no_action r n [] m e = refl
no_action r n (code.InBlock k found ∷ frames) m e = refl
no_action r n (code.InAction l resume area ∷ frames) m e = by (nat_eq n l) e where
  by : (b : Bool) → None ≡ (if b then Some resume else None) → (if b then act_ended r n resume area frames else ends code.Stuck) m ≡ ends code.Stuck m
  by true e = cc
  by false e = refl

pub stuck_at_action : (r : RawRoutine) (n : ℕ) (m : code.Machine) → None ≡ resume_of n m.running.frames → rows.end_action r n m ≡ ends code.Stuck m
stuck_at_action r n m e = no_action r n m.running.frames m e

-- ---- it ends

pub act_is : (r : RawRoutine) (n : ℕ) (resume : Option ℕ) (area : Diagnostics) (frames : List code.Frame) (m now : code.Machine) (h : Handler) (line : ℕ) → handler_at r n ≡ Some h →
    line_after r h h.kind resume m ≡ record { given = Got line; machine = m } → put_back area (with_frames frames m) ≡ now → act_ended r n resume area frames m ≡ record { given = Got (rows.at line); machine = now }
act_is r n resume area frames m now h line e f g = rw (e, f) (ap (λ (x : code.Machine). record { given = Got (rows.at line); machine = x }) g)
