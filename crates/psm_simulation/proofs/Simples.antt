-- Statements that are evaluations, SET and RETURN.
use Rattle.std.proofs.Common.{◌≡◌, ℕ, suc, List, [], ◌∷◌, refl, ap, ◌∙◌, subst, Option, Some, None, Result, Ok, Err}
use Rattle.psm_sqlstate.specs.declared.state.SqlState.{SqlState}
use Rattle.psm_value.specs.declared.datum.Datum.{Datum}
use Rattle.psm_value.specs.declared.sqltype.SqlType.{SqlType}
use Rattle.psm_value.specs.Stored.{stored}
use Rattle.psm_exprcode.specs.declared.operand.Operand.{Operand}
use Rattle.psm_exprcode.specs.declared.operand.Operand.TheVariants.{Value}
use Rattle.psm_resolved.specs.declared.expr.ResolvedExpr.{ResolvedExpr}
use Rattle.psm_resolved.specs.declared.file.ResolvedFile.{ResolvedFile}
use Rattle.psm_resolved.specs.declared.file.ResolvedRoutine.{ResolvedRoutine}
use Rattle.psm_resolved.specs.declared.statement.ResolvedSimple.TheVariants as simples
use Rattle.psm_meaning.specs.Acts as acts
use Rattle.psm_meaning.specs.Acts.{Act, Meaning, Return, change, ends_as}
use Rattle.psm_meaning.specs.Raising.{stated}
use Rattle.psm_meaning.specs.State.{State, cleared}
use Rattle.psm_meaning.specs.Statements.{simple}
use Rattle.psm_code.specs.declared.code.RawCode.{RawCode}
use Rattle.psm_code.specs.declared.code.RawRoutine.{RawRoutine}
use Rattle.psm_code.specs.declared.instruction.Instruction.TheVariants as instruction
use Rattle.psm_code.specs.Calling.{returning}
use Rattle.psm_code.specs.Parts.{routine_at}
use Rattle.psm_code.specs.Run.{Successor, settled}
use Rattle.psm_code.specs.State as code_state
use Rattle.psm_code.specs.State.{Stepped}
use Rattle.psm_code.specs.Steps as steps
use Rattle.psm_simulation.specs.Agreement.{Evaluates, IsReady, Spot, areas, machine}
use Rattle.psm_simulation.specs.Env.{Env, Plain, Raising, eval_context_of}
use Rattle.psm_simulation.specs.Scheme.{Simple}
use Rattle.psm_simulation.specs.Simulation.{Evals}
use Rattle.psm_simulation.proofs.Doing.{Does, Site, at_line, does-after, does-normal}
use Rattle.psm_simulation.proofs.Evaluating.{evaluates-from, evals-bind}
use Rattle.psm_simulation.proofs.Parts.{evals-value_of}
use Rattle.psm_simulation.proofs.Runs.{leads-here, leads-line, leads-same}
use Rattle.psm_simulation.proofs.Storing.{evals-store}

-- ---- statements that are evaluations

pub does-stated : {file : ResolvedFile} {code : RawCode} {routine : ResolvedRoutine} {r : RawRoutine} {m : Meaning} {env : Env} {spot : Spot} → Site file code routine r m env spot → {end : ℕ} {act : Act (Unit {0})} {from : State → Stepped}
    → Evals code r env.context end spot m act from (λ u. at_line spot end []) → Does file code routine r m env spot end (stated (eval_context_of routine env (areas spot.standing)) act) from
does-stated site e = does-after site e (λ u. does-normal)

-- CLEAR: the area becomes success
pub evals-cleared : {code : RawCode} {r : RawRoutine} {k following : ℕ} {spot : Spot} {m : Meaning} → routine_at code spot.number ≡ Some r → {pc : ℕ} → Plain r pc instruction.Clear → (os : List Operand)
    → Evals code r k following spot m (change cleared) (at_line spot pc os) (λ u. at_line spot (suc pc) os)
evals-cleared p l os = record { by = λ st d. (leads-line p l.there, d) }

-- the last line is the one before the line after the statement
pub evals-end : {code : RawCode} {r : RawRoutine} {k following : ℕ} {spot : Spot} {m : Meaning} {A : Type 0} {act : Act A} {from : State → Stepped} {last end : ℕ} → last ≡ end
    → Evals code r k following spot m act from (λ u. at_line spot last []) → Evals code r k following spot m act from (λ u. at_line spot end [])
evals-end {code = code} {r = r} {k = k} {following = following} {spot = spot} {m = m} {act = act} {from = from} e h = subst (λ n. Evals code r k following spot m act from (λ u. at_line spot n [])) e h

-- ---- SET

pub does-set : {file : ResolvedFile} {code : RawCode} {routine : ResolvedRoutine} {r : RawRoutine} {m : Meaning} {env : Env} {spot : Spot} → Site file code routine r m env spot → (slot : ℕ) (e : ResolvedExpr) {pc end : ℕ} → Simple file code routine r env end (simples.Set slot e) pc
    → Does file code routine r m env spot end (simple file (eval_context_of routine env (areas spot.standing)) (simples.Set slot e)) (at_line spot pc [])
does-set {routine = routine} {env = env} {spot = spot} site slot e (mid, clear, puts, store, last) =
    does-stated site (evals-bind (evals-cleared site.there clear []) (λ u. evals-bind (evals-value_of site.simulates site.there puts [])
    (λ d. evals-end last (evals-store (eval_context_of routine env (areas spot.standing)) site.there site.stands.slots store d []))))

-- ---- RETURN

-- the value in the type of the result, where it is known
abbrev giving : Datum → Option SqlType → steps.Act Successor
giving d x = steps.◌>>=◌ (steps.◌>>=◌ (steps.present x) (λ t. steps.tried (stored t d))) (λ v. steps.got (returning v))

abbrev giving_in : Datum → Option RawRoutine → steps.Act Successor
giving_in d q = steps.◌>>=◌ (steps.◌>>=◌ (steps.present q) (λ r. steps.◌>>=◌ (steps.present r.returns) (λ t. steps.tried (stored t d)))) (λ v. steps.got (returning v))

abbrev meant : Datum → Option SqlType → Act Datum
meant d x = acts.◌>>=◌ (acts.present x) (λ t. acts.tried (stored t d))

abbrev returned_at : Spot → ℕ → Datum → State → Stepped
returned_at spot pc d st = returning d (machine spot pc [] st)

abbrev tried_in : Result Datum SqlState → steps.Act Successor
tried_in v = steps.◌>>=◌ (steps.tried v) (λ v. steps.got (returning v))

tried-evaluates : (code : RawCode) (r : RawRoutine) (k following : ℕ) (spot : Spot) (m : Meaning) (pc : ℕ) → Raising r k following pc instruction.ReturnValue → (st : State) → IsReady code spot st → (v : Result Datum SqlState)
    → Evaluates code r k following spot (settled code (tried_in v (machine spot pc [] st)).given (tried_in v (machine spot pc [] st)).machine) (returned_at spot pc) (acts.tried v m st).given (acts.tried v m st).state
tried-evaluates code r k following spot m pc l st d (Ok v) = (leads-here, d)
tried-evaluates code r k following spot m pc l st d (Err s) = (record { pc = pc; operands = []; pending = None; line = _; there = l.there; context = refl; resume = refl; leads = leads-here }, d)

given-evaluates : (code : RawCode) (r : RawRoutine) (k following : ℕ) (spot : Spot) (m : Meaning) (pc : ℕ) → Raising r k following pc instruction.ReturnValue → (d : Datum) (st : State) → IsReady code spot st → (x : Option SqlType)
    → Evaluates code r k following spot (settled code (giving d x (machine spot pc [] st)).given (giving d x (machine spot pc [] st)).machine) (returned_at spot pc) (meant d x m st).given (meant d x m st).state
given-evaluates code r k following spot m pc l d st deep None = tt
given-evaluates code r k following spot m pc l d st deep (Some t) = tried-evaluates code r k following spot m pc l st deep (stored t d)

evals-given : {code : RawCode} {r : RawRoutine} {k following : ℕ} {spot : Spot} {m : Meaning} (returns : Option SqlType) → routine_at code spot.number ≡ Some r → r.returns ≡ returns → {pc : ℕ} → Raising r k following pc instruction.ReturnValue → (d : Datum)
    → Evals code r k following spot m (meant d returns) (at_line spot pc (Value d ∷ [])) (returned_at spot pc)
evals-given {code = code} {r = r} {k = k} {following = following} {spot = spot} {m = m} returns p same {pc = pc} l d = record {
  by = λ st deep. let n = machine spot pc [] st in
      let one = ap (λ q. settled code (giving_in d q n).given (giving_in d q n).machine) p in
      let two = ap (λ x. settled code (giving d x n).given (giving d x n).machine) same in
      evaluates-from code r k following spot (returned_at spot pc) (leads-same (leads-line p l.there) (one ∙ two)) (meant d returns m st).given (meant d returns m st).state (given-evaluates code r k following spot m pc l d st deep returns);
}

does-returned : {file : ResolvedFile} {code : RawCode} {routine : ResolvedRoutine} {r : RawRoutine} {m : Meaning} {env : Env} {spot : Spot} {end : ℕ} (pc : ℕ) (d : Datum) → Does file code routine r m env spot end (ends_as (Return d)) (returned_at spot pc d)
does-returned {spot = spot} pc d = record { by = λ st deep. record { last = code_state.cleared (machine spot pc [] st); tables = refl; turns = refl; area = refl; pending = refl; leads = leads-here } }

pub does-return : {file : ResolvedFile} {code : RawCode} {routine : ResolvedRoutine} {r : RawRoutine} {m : Meaning} {env : Env} {spot : Spot} → Site file code routine r m env spot → (e : ResolvedExpr) {pc end : ℕ} → Simple file code routine r env end (simples.Return e) pc
    → Does file code routine r m env spot end (simple file (eval_context_of routine env (areas spot.standing)) (simples.Return e)) (at_line spot pc [])
does-return {routine = routine} site e (mid, puts, l, last) =
    does-after site (evals-bind (evals-value_of site.simulates site.there puts []) (λ d. evals-given routine.returns site.there site.stands.returns l d)) (λ d. does-returned mid d)
