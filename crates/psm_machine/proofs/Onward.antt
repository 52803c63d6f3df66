-- Rows by their instructions, and a run that goes on by some of them.
use Rattle.std.proofs.Common.{◌≡◌, ℕ, ◌+◌, ◌<◌, refl, ap, sym, subst, ◌∙◌, None, Some, Option, option_map, Result, Ok, Err, IfOk, IsErrAnd, true, arith}
use Rattle.std.specs.declared.alloc.AllocError.{AllocError}
use Rattle.psm_exprcode.specs.declared.op.Op.{Op}
use Rattle.psm_code.specs.declared.code.RawCode.{RawCode}
use Rattle.psm_code.specs.declared.code.RawRoutine.{RawRoutine}
use Rattle.psm_code.specs.declared.instruction.Instruction.{Instruction}
use Rattle.psm_code.specs.declared.instruction.Instruction.TheVariants as instruction
use Rattle.psm_code.specs.declared.lines.CodeLine.{CodeLine}
use Rattle.psm_code.specs.Parts.{line_at, routine_at}
use Rattle.psm_code.specs.Run.{Successor, done, line_done, routine_done, step, steps, settled}
use Rattle.psm_code.specs.RoutineRules.{first_fault}
use Rattle.psm_code.specs.MachineInvariant.{MachineInvariant}
use Rattle.psm_code.specs.State.{Machine, More, Stepped}
use Rattle.psm_code.specs.Steps.{Came}
use Rattle.psm_termination.specs.Measure.{steps_at_most, shape}
use Rattle.psm_termination.proofs.Rows.{step_less, steps_less}
use Rattle.psm_unwind.specs.declared.ending.Outcome.{Outcome}
use Rattle.psm_unwind.specs.declared.ending.Outcome.TheVariants as outcome
use Rattle.psm_unwind.specs.View.{LeadsTo}
use Rattle.psm_machine.specs.declared.stop.Stop.{Stop}
use Rattle.psm_machine.specs.Successors.{StepsTo, goes_more, is_common}
use Rattle.psm_machine.specs.declared.running.Finished.{Finished}
use Rattle.psm_machine.specs.Running.{Advances, AfterStep, ended_by}
use Rattle.psm_code.proofs.Ending.{rows-more}
use Rattle.psm_code.proofs.NeverStuck.{rows_well_formed}
use Rattle.psm_code.specs.MachineInvariant.{StaysWellFormed}
use Rattle.psm_machine.proofs.Dropping.{settled_ok}
use Rattle.psm_machine.proofs.Finishing.{goes_further, leads_more}

line_step : (code : RawCode) (r : RawRoutine) (m : Machine) (l : Option CodeLine) (i : Instruction) → Some i ≡ option_map (λ (l : CodeLine). l.instruction) l → line_done code r l m ≡ settled code (done code r i m).given (done code r i m).machine
line_step code r m None i e = absurd cc
line_step code r m (Some l) i e =
    let same : l.instruction ≡ i = cc in
    ap (λ j. let came = done code r j m in settled code came.given came.machine) same

-- a row is what its instruction ends in
pub done_step : (code : RawCode) (m : Machine) (r : RawRoutine) (i : Instruction) → routine_at code m.running.routine ≡ Some r → Some i ≡ option_map (λ (l : CodeLine). l.instruction) (line_at r m.running.line)
    → step code m ≡ settled code (done code r i m).given (done code r i m).machine
done_step code m r i e f = ap (λ x. routine_done code x m) e ∙ line_step code r m (line_at r m.running.line) i f

-- an instruction that is done, after which another one comes
pub done_more : (code : RawCode) (m now : Machine) (r : RawRoutine) (i : Instruction) (res : Result (Unit {0}) Stop) (u : Unit {0}) → routine_at code m.running.routine ≡ Some r → Some i ≡ option_map (λ (l : CodeLine). l.instruction) (line_at r m.running.line)
    → res ≡ Ok u → StepsTo (done code r i m) (goes_more res) now → step code m ≡ More now
done_more code m now r i res u e f o h =
    let came = done code r i m in
    leads_more (step code m) outcome.More now refl
    (subst (λ t. LeadsTo t outcome.More now) (sym (done_step code m r i e f)) (settled_ok code came outcome.More now (subst (λ r. StepsTo came (goes_more r) now) o h)))

-- ---- an answer that says only whether it is done

pub errs_alike : (r : Result (Unit {0}) Stop) (s : Stop) → IsErrAnd r (λ e. e ≡ s) → IsErrAnd (goes_more r) (λ e. e ≡ s)
errs_alike (Ok u) s h = absurd h
errs_alike (Err e) s h = h

pub common_only : (i : Instruction) → is_common i ≡ true → ((o : Op) → i ≡ instruction.Operation o → ⊥) → (i ≡ instruction.Clear → ⊥) → ((n : ℕ) → i ≡ instruction.Store n → ⊥) → (i ≡ instruction.Turn → ⊥) → ⊥
common_only (instruction.Operation o) h n0 n1 n2 n3 = n0 o refl
common_only instruction.Clear h n0 n1 n2 n3 = n1 refl
common_only (instruction.Store n) h n0 n1 n2 n3 = n2 n refl
common_only instruction.Turn h n0 n1 n2 n3 = n3 refl
common_only i h n0 n1 n2 n3 = cc

-- ---- some rows, and one more

pub after_step : (t : Stepped) (o : Outcome) (last now : Machine) (n : ℕ) → n ≡ last.turns → LeadsTo t o now → AfterStep t (ended_by n o) last now
after_step t outcome.More last now n e h = h
after_step t (outcome.Over x) last now n e h = (h, e)

pub advances : (code : RawCode) (m last now : Machine) (k : ℕ) (r : Result (Option Finished) AllocError) → steps code k (More m) ≡ More last → IfOk r (λ f. AfterStep (step code last) f last now) → IfOk r (λ f. Advances code m f now)
advances code m last now k (Ok f) e h = record { count = k; last = last; leads = e; next = h }
advances code m last now k (Err x) e h = tt

-- ---- where a run is then

pub onward : (code : RawCode) (from : Stepped) (m last : Machine) (k n : ℕ) → steps code k from ≡ More m → steps code n (More m) ≡ More last → steps code (k + n) from ≡ More last
onward code from m last k n e f = rows-more code k n from ∙ ap (steps code n) e ∙ f

pub machine_invariant_there : (code : RawCode) → first_fault code ≡ None → (m last : Machine) (n : ℕ) → MachineInvariant code m → steps code n (More m) ≡ More last → MachineInvariant code last
machine_invariant_there code well_formed_code m last n h e = subst (StaysWellFormed code) e (rows_well_formed code well_formed_code n (More m) h)

-- ---- some rows, and one more that goes on

pub advance_leads : (code : RawCode) (m now : Machine) (a : Advances code m None now) → steps code (a.count + 1) (More m) ≡ More now
advance_leads code m now a = goes_further code (More m) a.count a.last now a.leads (leads_more (step code a.last) outcome.More now refl a.next)

pub advance_less : (code : RawCode) → first_fault code ≡ None → (m now : Machine) → MachineInvariant code m → Advances code m None now → steps_at_most code (shape now) < steps_at_most code (shape m)
advance_less code well_formed_code m now h a =
    let most = steps_less code well_formed_code a.count m a.last h a.leads in
    let less = step_less code well_formed_code a.last now (machine_invariant_there code well_formed_code m a.last a.count h a.leads) (leads_more (step code a.last) outcome.More now refl a.next) in
    omega (arith, most, less)
