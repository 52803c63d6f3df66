-- Evaluations one after another, and lines that carry out operations.
use Rattle.std.proofs.Common.{◌≡◌, ℕ, suc, List, [], refl, subst, Some, None}
use Rattle.psm_cond.specs.Condition.{Entries}
use Rattle.psm_exprcode.specs.declared.op.Op.{Op}
use Rattle.psm_exprcode.specs.declared.operand.Next.TheVariants.{FallThrough, Jump}
use Rattle.psm_exprcode.specs.declared.operand.Operand.{Operand}
use Rattle.psm_exprcode.specs.Applied.{Applied, Went, applied}
use Rattle.psm_exprcode.specs.Applied as op
use Rattle.psm_meaning.specs.Acts.{Act, Given, Got, Raises, Ends, Stuck, Meaning, got, go_on, of_state, ◌>>=◌}
use Rattle.psm_meaning.specs.State.{State}
use Rattle.psm_code.specs.declared.code.RawCode.{RawCode}
use Rattle.psm_code.specs.declared.code.RawRoutine.{RawRoutine}
use Rattle.psm_code.specs.declared.instruction.Instruction.TheVariants as instruction
use Rattle.psm_code.specs.Parts.{routine_at}
use Rattle.psm_code.specs.Run.{applied_as, settled}
use Rattle.psm_code.specs.State.{Stepped, More}
use Rattle.psm_simulation.specs.Agreement.{Evaluates, IsReady, Leads, RaisedAt, Spot, StopsAs, machine}
use Rattle.psm_simulation.specs.Env.{Raising}
use Rattle.psm_simulation.specs.Simulation.{Evals}
use Rattle.psm_simulation.proofs.Runs.{leads-here, leads-line, leads-to}
use Rattle.psm_meaning.specs.Acts as meaning

-- ---- what comes out of a run comes out of one that leads to it

pub stops-from : {code : RawCode} {a b : Stepped} → Leads code a b → (stop : meaning.Stop) → StopsAs code b stop → StopsAs code a stop
stops-from p meaning.NoTurns s = record { last = s.last; leads = leads-to p s.leads }
stops-from p meaning.OutOfFuel s = tt
stops-from p meaning.Stuck s = tt

pub raised-from : {code : RawCode} {r : RawRoutine} {k following : ℕ} {spot : Spot} {a b : Stepped} {c : Entries} {st : State} → Leads code a b → RaisedAt code r k following spot b c st → RaisedAt code r k following spot a c st
raised-from p x = record { pc = x.pc; operands = x.operands; pending = x.pending; line = x.line; there = x.there; context = x.context; resume = x.resume; leads = leads-to p x.leads }

pub evaluates-from : (code : RawCode) (r : RawRoutine) (k following : ℕ) (spot : Spot) {a b : Stepped} {A : Type 0} (to : A → State → Stepped) → Leads code a b
    → (g : Given A) (st : State) → Evaluates code r k following spot b to g st → Evaluates code r k following spot a to g st
evaluates-from code r k following spot to p (Got x) st c = (leads-to p c.0, c.1)
evaluates-from code r k following spot to p (Raises e) st c = (raised-from p c.0, c.1)
evaluates-from code r k following spot to p (Ends stop) st c = stops-from p stop c

-- ---- one evaluation after another

evaluates-bind : (code : RawCode) (r : RawRoutine) (k following : ℕ) (spot : Spot) (m : Meaning) {A B : Type 0} (from : Stepped) (mid : A → State → Stepped) (to : B → State → Stepped) (go : A → Act B) → ((x : A) → Evals code r k following spot m (go x) (mid x) to)
    → (g : Given A) (st : State) → Evaluates code r k following spot from mid g st → Evaluates code r k following spot from to (go_on g go m st).given (go_on g go m st).state
evaluates-bind code r k following spot m from mid to go h (Got x) st c = evaluates-from code r k following spot to c.0 (go x m st).given (go x m st).state ((h x).by st c.1)
evaluates-bind code r k following spot m from mid to go h (Raises e) st c = c
evaluates-bind code r k following spot m from mid to go h (Ends stop) st c = c

pub evals-bind : {code : RawCode} {r : RawRoutine} {k following : ℕ} {spot : Spot} {m : Meaning} {A B : Type 0} {act : Act A} {go : A → Act B} {from : State → Stepped} {mid : A → State → Stepped} {to : B → State → Stepped}
    → Evals code r k following spot m act from mid → ((x : A) → Evals code r k following spot m (go x) (mid x) to) → Evals code r k following spot m (◌>>=◌ act go) from to
evals-bind {code = code} {r = r} {k = k} {following = following} {spot = spot} {m = m} {act = act} {go = go} {from = from} {mid = mid} {to = to} p h =
    record { by = λ st d. evaluates-bind code r k following spot m (from st) mid to go h (act m st).given (act m st).state (p.by st d) }

pub evals-got : {code : RawCode} {r : RawRoutine} {k following : ℕ} {spot : Spot} {m : Meaning} {A : Type 0} {a : A} {to : A → State → Stepped} → Evals code r k following spot m (got a) (to a) to
evals-got = record { by = λ st d. (leads-here, d) }

-- a run that leads on before
pub evals-from : {code : RawCode} {r : RawRoutine} {k following : ℕ} {spot : Spot} {m : Meaning} {A : Type 0} {act : Act A} {from mid : State → Stepped} {to : A → State → Stepped}
    → ((st : State) → Leads code (from st) (mid st)) → Evals code r k following spot m act mid to → Evals code r k following spot m act from to
evals-from {code = code} {r = r} {k = k} {following = following} {spot = spot} {m = m} {act = act} {to = to} h p = record { by = λ st d. evaluates-from code r k following spot to (h st) (act m st).given (act m st).state (p.by st d) }

-- ---- operations

-- what an operation ends in, as an evaluation
abbrev pub given_of : Applied → Given (List Operand)
given_of (Went FallThrough os) = Got os
given_of (Went (Jump p) os) = Ends Stuck
given_of (op.Raised s) = Raises (of_state s)
given_of op.Stuck = Ends Stuck

came-applied : (code : RawCode) (r : RawRoutine) (k following : ℕ) (spot : Spot) (pc : ℕ) (o : Op) (os : List Operand) (st : State) → Raising r k following pc (instruction.Operation o) → IsReady code spot st → (a : Applied)
    → Evaluates code r k following spot (settled code (applied_as a (machine spot pc os st)).given (applied_as a (machine spot pc os st)).machine) (λ ps st. More (machine spot (suc pc) ps st)) (given_of a) st
came-applied code r k following spot pc o os st l d (Went FallThrough ps) = (leads-here, d)
came-applied code r k following spot pc o os st l d (Went (Jump p) ps) = tt
came-applied code r k following spot pc o os st l d (op.Raised s) = (record { pc = pc; operands = os; pending = None; line = _; there = l.there; context = refl; resume = refl; leads = leads-here }, d)
came-applied code r k following spot pc o os st l d op.Stuck = tt

-- a line that carries out an operation
pub evaluates-operation : (code : RawCode) (r : RawRoutine) (k following : ℕ) (spot : Spot) → routine_at code spot.number ≡ Some r → (pc : ℕ) (o : Op) (os : List Operand) (st : State) → Raising r k following pc (instruction.Operation o) → IsReady code spot st
    → Evaluates code r k following spot (More (machine spot pc os st)) (λ ps st. More (machine spot (suc pc) ps st)) (given_of (applied o os [] st.variables)) st
evaluates-operation code r k following spot p pc o os st l d =
    evaluates-from code r k following spot (λ ps st. More (machine spot (suc pc) ps st)) (leads-line p l.there) (given_of (applied o os [] st.variables)) st (came-applied code r k following spot pc o os st l d (applied o os [] st.variables))

-- where it is known how the run goes on
pub leads-operation : (code : RawCode) (r : RawRoutine) (spot : Spot) → routine_at code spot.number ≡ Some r → (pc : ℕ) {k following : ℕ} (o : Op) (os ps : List Operand) (st : State) → Raising r k following pc (instruction.Operation o)
    → applied o os [] st.variables ≡ Went FallThrough ps → Leads code (More (machine spot pc os st)) (More (machine spot (suc pc) ps st))
leads-operation code r spot p pc o os ps st l e = subst (λ a. Leads code (More (machine spot pc os st)) (settled code (applied_as a (machine spot pc os st)).given (applied_as a (machine spot pc os st)).machine)) e (leads-line p l.there)

pub leads-jump : (code : RawCode) (r : RawRoutine) (spot : Spot) → routine_at code spot.number ≡ Some r → (pc : ℕ) {k following : ℕ} (o : Op) (os ps : List Operand) (target : ℕ) (st : State) → Raising r k following pc (instruction.Operation o)
    → applied o os [] st.variables ≡ Went (Jump target) ps → Leads code (More (machine spot pc os st)) (More (machine spot target ps st))
leads-jump code r spot p pc o os ps target st l e = subst (λ a. Leads code (More (machine spot pc os st)) (settled code (applied_as a (machine spot pc os st)).given (applied_as a (machine spot pc os st)).machine)) e (leads-line p l.there)
