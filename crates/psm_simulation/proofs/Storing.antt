-- Values that go into variables.
use Rattle.std.proofs.Common.{◌≡◌, ℕ, suc, List, [], ◌∷◌, slice_get, refl, ap, subst, Option, Some, None, Result, Ok, Err}
use Rattle.psm_sqlstate.specs.declared.state.SqlState.{SqlState}
use Rattle.psm_value.specs.declared.datum.Datum.{Datum}
use Rattle.psm_value.specs.declared.datum.Datum.TheVariants as data_of
use Rattle.psm_value.specs.declared.sqltype.SqlType.{SqlType}
use Rattle.psm_value.specs.Stored.{stored}
use Rattle.psm_exprcode.specs.declared.op.Op.TheVariants as op
use Rattle.psm_exprcode.specs.declared.operand.Operand.{Operand}
use Rattle.psm_exprcode.specs.declared.operand.Operand.TheVariants.{Value}
use Rattle.psm_resolved.specs.declared.expr.ResolvedExpr.{ResolvedExpr}
use Rattle.psm_resolved.specs.declared.file.ResolvedFile.{ResolvedFile}
use Rattle.psm_resolved.specs.declared.statement.ResolvedDeclaration.{ResolvedDeclaration}
use Rattle.psm_meaning.specs.Acts as meaning
use Rattle.psm_meaning.specs.Acts.{Meaning}
use Rattle.psm_meaning.specs.Assigning.{assign, assign_each}
use Rattle.psm_meaning.specs.Blocks.{all_declared, default_of}
use Rattle.psm_meaning.specs.State.{EvalContext, State, with_variable}
use Rattle.psm_code.specs.declared.code.RawCode.{RawCode}
use Rattle.psm_code.specs.declared.code.RawRoutine.{RawRoutine}
use Rattle.psm_code.specs.declared.instruction.Instruction.TheVariants as instruction
use Rattle.psm_code.specs.Parts.{routine_at, slots_of}
use Rattle.psm_code.specs.Run.{settled, then_fall_through}
use Rattle.psm_code.specs.State as code_state
use Rattle.psm_code.specs.Steps as steps
use Rattle.psm_simulation.specs.Agreement.{Evaluates, IsReady, Spot, machine}
use Rattle.psm_simulation.specs.Env.{Raising}
use Rattle.psm_simulation.specs.Scheme.{Copies, Declares, Default}
use Rattle.psm_simulation.specs.Simulation.{Evals, Simulates}
use Rattle.psm_simulation.proofs.Doing.{at_line}
use Rattle.psm_simulation.proofs.Evaluating.{evaluates-from, evals-bind, evals-from, evals-got, leads-operation}
use Rattle.psm_simulation.proofs.Parts.{evals-value_of}
use Rattle.psm_simulation.proofs.Runs.{leads-here, leads-line, leads-same}

-- ---- STORE

-- the instruction, where the type of the variable is known
abbrev storing : ℕ → Option SqlType → steps.Act (Unit {0})
storing slot x = steps.◌>>=◌ (steps.present x) (λ t. steps.◌>>=◌ steps.pop (λ d. steps.◌>>=◌ (steps.tried (stored t d)) (λ v. steps.change (code_state.with_variable slot v))))

abbrev assigning : ℕ → Datum → Option SqlType → meaning.Act (Unit {0})
assigning slot d x = meaning.◌>>=◌ (meaning.present x) (λ t. meaning.◌>>=◌ (meaning.tried (stored t d)) (λ v. meaning.change (with_variable slot v)))

abbrev keeping : ℕ → Result Datum SqlState → steps.Act (Unit {0})
keeping slot v = steps.◌>>=◌ (steps.tried v) (λ w. steps.change (code_state.with_variable slot w))

abbrev holding : ℕ → Result Datum SqlState → meaning.Act (Unit {0})
holding slot v = meaning.◌>>=◌ (meaning.tried v) (λ w. meaning.change (with_variable slot w))

stored-evaluates : (code : RawCode) (r : RawRoutine) (k following : ℕ) (spot : Spot) (m : Meaning) (pc slot : ℕ) → Raising r k following pc (instruction.Store slot) → (d : Datum) (below : List Operand) (st : State) → IsReady code spot st → (v : Result Datum SqlState)
    → Evaluates code r k following spot (settled code (then_fall_through (keeping slot v) (machine spot pc below st)).given (then_fall_through (keeping slot v) (machine spot pc below st)).machine) (λ u. at_line spot (suc pc) below) (holding slot v m st).given (holding slot v m st).state
stored-evaluates code r k following spot m pc slot l d below st deep (Ok v) = (leads-here, deep)
stored-evaluates code r k following spot m pc slot l d below st deep (Err s) = (record { pc = pc; operands = below; pending = None; line = _; there = l.there; context = refl; resume = refl; leads = leads-here }, deep)

typed-evaluates : (code : RawCode) (r : RawRoutine) (k following : ℕ) (spot : Spot) (m : Meaning) (pc slot : ℕ) → Raising r k following pc (instruction.Store slot) → (d : Datum) (below : List Operand) (st : State) → IsReady code spot st → (x : Option SqlType)
    → Evaluates code r k following spot (settled code (then_fall_through (storing slot x) (machine spot pc (Value d ∷ below) st)).given (then_fall_through (storing slot x) (machine spot pc (Value d ∷ below) st)).machine) (λ u. at_line spot (suc pc) below)
    (assigning slot d x m st).given (assigning slot d x m st).state
typed-evaluates code r k following spot m pc slot l d below st deep None = tt
typed-evaluates code r k following spot m pc slot l d below st deep (Some t) = stored-evaluates code r k following spot m pc slot l d below st deep (stored t d)

pub evals-store : {code : RawCode} {r : RawRoutine} {k following : ℕ} {spot : Spot} {m : Meaning} (eval_context : EvalContext) → routine_at code spot.number ≡ Some r → slots_of r ≡ eval_context.routine.slots → {pc slot : ℕ} → Raising r k following pc (instruction.Store slot) → (d : Datum) (below : List Operand)
    → Evals code r k following spot m (assign eval_context slot d) (at_line spot pc (Value d ∷ below)) (λ u. at_line spot (suc pc) below)
evals-store {code = code} {r = r} {k = k} {following = following} {spot = spot} {m = m} eval_context p same {pc = pc} {slot = slot} l d below = record {
  by = λ st deep. let n = machine spot pc (Value d ∷ below) st in
      let one = ap (λ s. settled code (then_fall_through (storing slot (slice_get s slot)) n).given (then_fall_through (storing slot (slice_get s slot)) n).machine) same in
      evaluates-from code r k following spot (λ u. at_line spot (suc pc) below) (leads-same (leads-line p l.there) one) (assign eval_context slot d m st).given (assign eval_context slot d m st).state
      (typed-evaluates code r k following spot m pc slot l d below st deep (slice_get eval_context.routine.slots slot));
}

-- ---- the last operand goes into several variables

pub evals-copies : {code : RawCode} {r : RawRoutine} {k following : ℕ} {spot : Spot} {m : Meaning} (eval_context : EvalContext) → routine_at code spot.number ≡ Some r → slots_of r ≡ eval_context.routine.slots → (slots : List ℕ) {pc end : ℕ} → Copies r k following slots pc end → (d : Datum)
    → Evals code r k following spot m (assign_each eval_context slots d) (at_line spot pc (Value d ∷ [])) (λ u. at_line spot end [])
evals-copies {code = code} {r = r} {k = k} {following = following} {spot = spot} {m = m} eval_context p same [] {pc = pc} (l, e) d =
    subst (λ n. Evals code r k following spot m (assign_each eval_context [] d) (at_line spot pc (Value d ∷ [])) (λ u. at_line spot n [])) e (evals-from (λ st. leads-operation code r spot p pc op.Drop (Value d ∷ []) [] st l refl) evals-got)
evals-copies {code = code} {r = r} {k = k} {following = following} {spot = spot} {m = m} eval_context p same (slot ∷ []) {pc = pc} (l, e) d =
    subst (λ n. Evals code r k following spot m (assign_each eval_context (slot ∷ []) d) (at_line spot pc (Value d ∷ [])) (λ u. at_line spot n [])) e (evals-bind (evals-store eval_context p same l d []) (λ u. evals-got))
evals-copies {code = code} {r = r} {spot = spot} eval_context p same (slot ∷ t ∷ slots) {pc = pc} (u, l, more) d =
    evals-from (λ st. leads-operation code r spot p pc op.Duplicate (Value d ∷ []) (Value d ∷ Value d ∷ []) st u refl) (evals-bind (evals-store eval_context p same l d (Value d ∷ [])) (λ v. evals-copies eval_context p same (t ∷ slots) more d))

-- ---- declarations

evals-default : {file : ResolvedFile} {code : RawCode} {r : RawRoutine} {k following : ℕ} {spot : Spot} {m : Meaning} → Simulates file code m → routine_at code spot.number ≡ Some r → (e : Option ResolvedExpr) {pc end : ℕ} → Default file code r k following e pc end
    → Evals code r k following spot m (default_of e) (at_line spot pc []) (λ d. at_line spot end (Value d ∷ []))
evals-default {code = code} {r = r} {k = k} {following = following} {spot = spot} {m = m} sim p None {pc = pc} (letter, l, e) =
    subst (λ n. Evals code r k following spot m (default_of None) (at_line spot pc []) (λ d. at_line spot n (Value d ∷ []))) e
    (evals-from {mid = at_line spot (suc pc) (Value data_of.Null ∷ [])} (λ st. leads-operation code r spot p pc (op.Constant letter data_of.Null) [] (Value data_of.Null ∷ []) st l refl) evals-got)
evals-default sim p (Some e) x = evals-value_of sim p x []

pub evals-declared : {file : ResolvedFile} {code : RawCode} {r : RawRoutine} {k following : ℕ} {spot : Spot} {m : Meaning} (eval_context : EvalContext) → Simulates file code m → routine_at code spot.number ≡ Some r → slots_of r ≡ eval_context.routine.slots → (xs : List ResolvedDeclaration) {pc end : ℕ} → Declares file code r k following xs pc end
    → Evals code r k following spot m (all_declared eval_context xs) (at_line spot pc []) (λ u. at_line spot end [])
evals-declared {code = code} {r = r} {k = k} {following = following} {spot = spot} {m = m} eval_context sim p same [] {pc = pc} e = subst (λ n. Evals code r k following spot m (all_declared eval_context []) (at_line spot pc []) (λ u. at_line spot n [])) e evals-got
evals-declared eval_context sim p same (x ∷ xs) (mid, next, e, c, more) =
    evals-bind (evals-bind (evals-default sim p x.default e) (λ d. evals-copies eval_context p same x.slots c d)) (λ u. evals-declared eval_context sim p same xs more)
