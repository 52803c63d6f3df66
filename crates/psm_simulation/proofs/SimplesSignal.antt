-- SIGNAL and RESIGNAL.
use Rattle.std.proofs.Common.{◌≡◌, ℕ, suc, List, [], ◌∷◌, map, slice_get, refl, ap, ◌∙◌, subst, Option, Some, None, option_map}
use Rattle.std.specs.Prelude.{codes}
use Rattle.psm_value.specs.declared.datum.Datum.{Datum}
use Rattle.psm_value.specs.declared.datum.Datum.TheVariants as data_of
use Rattle.psm_cond.specs.Condition.{Entries, alone, «following» as in_front}
use Rattle.psm_cond.specs.Entry.{entry_of, name_text}
use Rattle.psm_cond.specs.declared.entry.Entry.{Entry}
use Rattle.psm_cond.specs.declared.handlers.Declared.{Declared}
use Rattle.psm_cond.specs.declared.handlers.Declared.TheVariants as declares
use Rattle.psm_exprcode.specs.declared.operand.Operand.TheVariants.{Value}
use Rattle.psm_resolved.specs.declared.expr.ResolvedExpr.{ResolvedExpr}
use Rattle.psm_resolved.specs.declared.file.ResolvedFile.{ResolvedFile}
use Rattle.psm_resolved.specs.declared.file.ResolvedRoutine.{ResolvedRoutine}
use Rattle.psm_resolved.specs.declared.statement.ResolvedCondition.{ResolvedCondition}
use Rattle.psm_resolved.specs.declared.statement.ResolvedCondition.TheVariants as conditions
use Rattle.psm_resolved.specs.declared.statement.ResolvedSignal.{ResolvedSignal}
use Rattle.psm_resolved.specs.declared.statement.ResolvedSimple.TheVariants as simples
use Rattle.psm_meaning.specs.Acts as acts
use Rattle.psm_meaning.specs.Acts.{Act, Meaning}
use Rattle.psm_meaning.specs.Signalling as signalling
use Rattle.psm_meaning.specs.State.{EvalContext, State}
use Rattle.psm_meaning.specs.Statements.{simple}
use Rattle.psm_code.specs.declared.code.RawCode.{RawCode}
use Rattle.psm_code.specs.declared.code.RawRoutine.{RawRoutine}
use Rattle.psm_code.specs.declared.instruction.Instruction.{Instruction}
use Rattle.psm_code.specs.declared.instruction.Instruction.TheVariants as instruction
use Rattle.psm_code.specs.Parts.{routine_at}
use Rattle.psm_code.specs.Run.{done, settled, then_fall_through}
use Rattle.psm_code.specs.Signalling as signals
use Rattle.psm_code.specs.State.{Machine, Stepped}
use Rattle.psm_code.specs.Steps as steps
use Rattle.psm_simulation.specs.Agreement.{Acting, Evaluates, Entered, IsReady, Spot, Standing, areas, frame_of, machine}
use Rattle.psm_simulation.specs.Env.{Env, Raising, eval_context_of}
use Rattle.psm_simulation.specs.Scheme.{IsDeclared, Signals, Simple}
use Rattle.psm_simulation.specs.Simulation.{Evals, Simulates}
use Rattle.psm_simulation.proofs.Doing.{Does, Site, at_line}
use Rattle.psm_simulation.proofs.Evaluating.{evaluates-from, evals-bind}
use Rattle.psm_simulation.proofs.Operands.{evals-regrouped}
use Rattle.psm_simulation.proofs.Parts.{evals-value_of}
use Rattle.psm_simulation.proofs.Runs.{after_line, leads-here, leads-line, leads-same}
use Rattle.psm_simulation.proofs.Simples.{does-stated, evals-cleared}

abbrev Finishing : Type 0
Finishing = Entry → steps.Act (Unit {0})

abbrev Finish : Type 0
Finish = Entry → Act (Unit {0})

-- what an instruction does with the condition and without a message agrees with what is meant
abbrev FinishesAs : RawCode → RawRoutine → ℕ → ℕ → Spot → Meaning → ℕ → Finishing → Finish → Type 0
FinishesAs code r k following spot m end finishing finish = (pc : ℕ) (i : Instruction) → Raising r k following pc i → (e : Entry) (st : State) → IsReady code spot st
    → Evaluates code r k following spot (after_line code (finishing e) (machine spot pc [] st)) (λ u. at_line spot end []) (finish e m st).given (finish e m st).state

-- ---- the entry of a condition

evals-own : {code : RawCode} {r : RawRoutine} {k following : ℕ} {spot : Spot} {m : Meaning} {B : Type 0} {from : State → Stepped} {to : B → State → Stepped} (i : ℕ) (go : Entry → Act B) (x : Option (List ℕ)) → slice_get r.handlers.declared i ≡ option_map (λ name. declares.Named name) x
    → ((d : Declared) → slice_get r.handlers.declared i ≡ Some d → Evals code r k following spot m (go (signals.entry_for i d)) from to)
    → Evals code r k following spot m (acts.◌>>=◌ (acts.◌>>=◌ (acts.present x) (λ name. acts.got (record (entry_of (codes "45000")) { own = Some i; identifier = name_text name }))) go) from to
evals-own i go None q h = record { by = λ st d. tt }
evals-own i go (Some name) q h = record { by = λ st d. (h (declares.Named name) q).by st d }

evals-entry : {code : RawCode} {r : RawRoutine} {k following : ℕ} {spot : Spot} {m : Meaning} {B : Type 0} {from : State → Stepped} {to : B → State → Stepped} (eval_context : EvalContext) (c : ResolvedCondition) (n : ℕ) → IsDeclared eval_context.routine r c n → (go : Entry → Act B)
    → ((d : Declared) → slice_get r.handlers.declared n ≡ Some d → Evals code r k following spot m (go (signals.entry_for n d)) from to)
    → Evals code r k following spot m (acts.◌>>=◌ (signalling.entry_for eval_context c) go) from to
evals-entry eval_context (conditions.State s) n q go h = record { by = λ st d. (h (declares.OfState s) q).by st d }
evals-entry {code = code} {r = r} {k = k} {following = following} {spot = spot} {m = m} {from = from} {to = to} eval_context (conditions.Own i) n (e, q) go h =
    evals-own i go (slice_get eval_context.routine.conditions i) q
    (subst (λ l. (d : Declared) → slice_get r.handlers.declared l ≡ Some d → Evals code r k following spot m (go (signals.entry_for l d)) from to) e h)

-- ---- the message

abbrev messaging : Datum → Entry → Finishing → steps.Act (Unit {0})
messaging d e finishing = steps.◌>>=◌ (steps.◌>>=◌ (signals.message_text d) (λ t. steps.got (record e { message = t }))) finishing

abbrev meant_message : Datum → Entry → Finish → Act (Unit {0})
meant_message d e finish = acts.◌>>=◌ (acts.◌>>=◌ (signalling.message_text d) (λ t. acts.got (record e { message = t }))) finish

-- an instruction, where the condition is known
abbrev with_it : Finishing → ℕ → Option Declared → steps.Act (Unit {0})
with_it finishing n x = steps.◌>>=◌ (steps.◌>>=◌ (steps.present x) (λ d. steps.got (signals.entry_for n d))) finishing

abbrev with_both : Finishing → ℕ → Option Declared → steps.Act (Unit {0})
with_both finishing n x = steps.◌>>=◌ (steps.◌>>=◌ (steps.present x) (λ d. steps.got (signals.entry_for n d))) (λ e. steps.◌>>=◌ (signals.with_message e) finishing)

module _ (code : RawCode) (r : RawRoutine) (k following : ℕ) (spot : Spot) (m : Meaning) (end : ℕ) (finishing : Finishing) (finish : Finish) (h : FinishesAs code r k following spot m end finishing finish) where
  message-evaluates : (pc : ℕ) (i : Instruction) → Raising r k following pc i → (e : Entry) (st : State) → IsReady code spot st → (d : Datum)
      → Evaluates code r k following spot (after_line code (messaging d e finishing) (machine spot pc [] st)) (λ u. at_line spot end []) (meant_message d e finish m st).given (meant_message d e finish m st).state
  message-evaluates pc i l e st deep data_of.Null = h pc i l (record e { message = [] }) st deep
  message-evaluates pc i l e st deep (data_of.Num n) = tt
  message-evaluates pc i l e st deep (data_of.Text t) = h pc i l (record e { message = t }) st deep

  -- the condition alone
  evals-plain : routine_at code spot.number ≡ Some r → (pc n : ℕ) (i : Instruction) → ((q : Machine) → done code r i q ≡ then_fall_through (with_it finishing n (slice_get r.handlers.declared n)) q) → Raising r k following pc i → (x : Declared)
      → slice_get r.handlers.declared n ≡ Some x → Evals code r k following spot m (finish (signals.entry_for n x)) (at_line spot pc []) (λ u. at_line spot end [])
  evals-plain p pc n i same l x there = record {
    by = λ st deep. let q = machine spot pc [] st in
        let e = signals.entry_for n x in
        let one = ap (λ c. settled code c.given c.machine) (same q) in
        let two = ap (λ y. after_line code (with_it finishing n y) q) there in
        evaluates-from code r k following spot (λ u. at_line spot end []) (leads-same (leads-line p l.there) (one ∙ two)) (finish e m st).given (finish e m st).state (h pc i l e st deep);
  }

  -- the condition with the message that stands on the operands
  evals-messaged : routine_at code spot.number ≡ Some r → (pc n : ℕ) (i : Instruction) → ((q : Machine) → done code r i q ≡ then_fall_through (with_both finishing n (slice_get r.handlers.declared n)) q) → Raising r k following pc i → (x : Declared)
      → slice_get r.handlers.declared n ≡ Some x → (d : Datum) → Evals code r k following spot m (meant_message d (signals.entry_for n x) finish) (at_line spot pc (Value d ∷ [])) (λ u. at_line spot end [])
  evals-messaged p pc n i same l x there d = record {
    by = λ st deep. let q = machine spot pc (Value d ∷ []) st in
        let e = signals.entry_for n x in
        let one = ap (λ c. settled code c.given c.machine) (same q) in
        let two = ap (λ y. after_line code (with_both finishing n y) q) there in
        evaluates-from code r k following spot (λ u. at_line spot end []) (leads-same (leads-line p l.there) (one ∙ two)) (meant_message d e finish m st).given (meant_message d e finish m st).state (message-evaluates pc i l e st deep d);
  }

  evals-signals : (file : ResolvedFile) → Simulates file code m → routine_at code spot.number ≡ Some r → (plain messaged : ℕ → Instruction) → ((n : ℕ) (q : Machine) → done code r (plain n) q ≡ then_fall_through (with_it finishing n (slice_get r.handlers.declared n)) q)
      → ((n : ℕ) (q : Machine) → done code r (messaged n) q ≡ then_fall_through (with_both finishing n (slice_get r.handlers.declared n)) q) → (n : ℕ) (x : Declared) → slice_get r.handlers.declared n ≡ Some x
      → (message : Option ResolvedExpr) (pc last : ℕ) → Signals file code r k following plain messaged n message pc last
      → Evals code r k following spot m (acts.◌>>=◌ (signalling.with_message message (signals.entry_for n x)) finish) (at_line spot pc []) (λ u. at_line spot end [])
  evals-signals file sim p plain messaged alone both n x there None pc last (l, e) = record { by = λ st d. (evals-plain p pc n (plain n) (alone n) l x there).by st d }
  evals-signals file sim p plain messaged alone both n x there (Some message) pc last (mid, puts, l, e) =
      let entry = signals.entry_for n x in
      evals-regrouped (acts.value_of message) (λ d. acts.◌>>=◌ (signalling.message_text d) (λ t. acts.got (record entry { message = t }))) finish (at_line spot pc []) (λ u. at_line spot end [])
      (evals-bind (evals-value_of sim p puts []) (λ d. evals-messaged p mid n (messaged n) (both n) l x there d))

-- ---- SIGNAL

raises-same : (code : RawCode) (r : RawRoutine) (k following : ℕ) (spot : Spot) (m : Meaning) (end : ℕ) → FinishesAs code r k following spot m end (λ e. steps.raises (alone e)) (λ e. acts.raises (alone e))
raises-same code r k following spot m end pc i l e st d = (record { pc = pc; operands = []; pending = None; line = _; there = l.there; context = refl; resume = refl; leads = leads-here }, d)

pub does-signal : {file : ResolvedFile} {code : RawCode} {routine : ResolvedRoutine} {r : RawRoutine} {m : Meaning} {env : Env} {spot : Spot} → Site file code routine r m env spot → (s : ResolvedSignal) {pc end : ℕ} → Simple file code routine r env end (simples.Signal s) pc
    → Does file code routine r m env spot end (simple file (eval_context_of routine env (areas spot.standing)) (simples.Signal s)) (at_line spot pc [])
does-signal {file = file} {code = code} {routine = routine} {r = r} {m = m} {env = env} {spot = spot} site s {pc = pc} {end = end} (n, clear, there, x) =
    let eval_context = eval_context_of routine env (areas spot.standing) in
    let finish : Finish = λ e. acts.raises (alone e) in
    let finishing : Finishing = λ e. steps.raises (alone e) in
    does-stated site (evals-bind (evals-cleared site.there clear []) (λ u. evals-regrouped (signalling.entry_for eval_context s.condition) (signalling.with_message s.message) finish (at_line spot (suc pc) []) (λ u. at_line spot end [])
    (evals-entry eval_context s.condition n there (λ e. acts.◌>>=◌ (signalling.with_message s.message e) finish) (λ d q. evals-signals code r env.context end spot m end finishing finish (raises-same code r env.context end spot m end) file site.simulates site.there
    (λ n. instruction.Signal n) (λ n. instruction.SignalMessage n) (λ n q. refl) (λ n q. refl) n d q s.message (suc pc) end x))))

-- ---- RESIGNAL

-- the condition of the innermost action is the one of the innermost frame of an action
activating-evaluates : (code : RawCode) (r : RawRoutine) (k following : ℕ) (spot : Spot) (m : Meaning) (end pc : ℕ) (i : Instruction) → Raising r k following pc i → (st : State) → IsReady code spot st → (c : Entries → Entries) → (standing : List Standing)
    → Evaluates code r k following spot (after_line code (steps.◌>>=◌ (signals.activating (map frame_of standing)) (λ x. steps.raises (c x))) (machine spot pc [] st)) (λ u. at_line spot end [])
    (acts.◌>>=◌ {B = Unit {0}} (signalling.activating (areas standing)) (λ x. acts.raises (c x)) m st).given (acts.◌>>=◌ {B = Unit {0}} (signalling.activating (areas standing)) (λ x. acts.raises (c x)) m st).state
activating-evaluates code r k following spot m end pc i l st d c [] = (record { pc = pc; operands = []; pending = None; line = _; there = l.there; context = refl; resume = refl; leads = leads-here }, d)
activating-evaluates code r k following spot m end pc i l st d c (Entered v outer found ∷ standing) = activating-evaluates code r k following spot m end pc i l st d c standing
activating-evaluates code r k following spot m end pc i l st d c (Acting n resume area ∷ standing) = (record { pc = pc; operands = []; pending = None; line = _; there = l.there; context = refl; resume = refl; leads = leads-here }, d)

evals-resignal : {code : RawCode} {r : RawRoutine} {k following : ℕ} {spot : Spot} {m : Meaning} {end pc : ℕ} → routine_at code spot.number ≡ Some r → Raising r k following pc instruction.Resignal
    → Evals code r k following spot m {A = Unit {0}} (acts.◌>>=◌ (signalling.activating (areas spot.standing)) (λ x. acts.raises x)) (at_line spot pc []) (λ u. at_line spot end [])
evals-resignal {code = code} {r = r} {k = k} {following = following} {spot = spot} {m = m} {end = end} {pc = pc} p l = record {
  by = λ st d. let act : Act (Unit {0}) = acts.◌>>=◌ (signalling.activating (areas spot.standing)) (λ x. acts.raises x) in
      evaluates-from code r k following spot (λ u. at_line spot end []) (leads-line p l.there) (act m st).given (act m st).state (activating-evaluates code r k following spot m end pc instruction.Resignal l st d (λ x. x) spot.standing);
}

pub does-resignal : {file : ResolvedFile} {code : RawCode} {routine : ResolvedRoutine} {r : RawRoutine} {m : Meaning} {env : Env} {spot : Spot} → Site file code routine r m env spot → (s : Option ResolvedSignal) {pc end : ℕ} → Simple file code routine r env end (simples.Resignal s) pc
    → Does file code routine r m env spot end (simple file (eval_context_of routine env (areas spot.standing)) (simples.Resignal s)) (at_line spot pc [])
does-resignal site None (clear, l, e) = does-stated site (evals-bind (evals-cleared site.there clear []) (λ u. evals-resignal site.there l))
does-resignal {file = file} {code = code} {routine = routine} {r = r} {m = m} {env = env} {spot = spot} site (Some s) {pc = pc} {end = end} (n, clear, there, x) =
    let eval_context = eval_context_of routine env (areas spot.standing) in
    let finish : Finish = λ e. acts.◌>>=◌ (signalling.activating eval_context.acting) (λ c. acts.raises (in_front e c)) in
    let finishing : Finishing = signals.resignal_with in
    let h : FinishesAs code r env.context end spot m end finishing finish = λ pc i l e st d. activating-evaluates code r env.context end spot m end pc i l st d (in_front e) spot.standing in
    does-stated site (evals-bind (evals-cleared site.there clear []) (λ u. evals-regrouped (signalling.entry_for eval_context s.condition) (signalling.with_message s.message) finish (at_line spot (suc pc) []) (λ u. at_line spot end [])
    (evals-entry eval_context s.condition n there (λ e. acts.◌>>=◌ (signalling.with_message s.message e) finish) (λ d q. evals-signals code r env.context end spot m end finishing finish h file site.simulates site.there
    (λ n. instruction.ResignalCondition n) (λ n. instruction.ResignalMessage n) (λ n q. refl) (λ n q. refl) n d q s.message (suc pc) end x))))
