-- Operations one after another, and what they make of operands.
use Rattle.std.proofs.Common.{◌≡◌, ℕ, suc, Bool, true, false, List, [], ◌∷◌, refl, ap, ◌∙◌, subst, Option, Some, None, Ok, Err}
use Rattle.psm_value.specs.declared.datum.Datum.{Datum}
use Rattle.psm_value.specs.Truth.{opposite}
use Rattle.psm_exprcode.specs.declared.op.Op.{Op}
use Rattle.psm_exprcode.specs.declared.op.Op.TheVariants as ops
use Rattle.psm_exprcode.specs.declared.operand.Next.TheVariants.{FallThrough, Jump}
use Rattle.psm_exprcode.specs.declared.operand.Operand.{Operand}
use Rattle.psm_exprcode.specs.Applied.{Applied, Went, applied, with_value}
use Rattle.psm_exprcode.specs.Applied as op
use Rattle.psm_exprcode.specs.Evaluated.{Outcome}
use Rattle.psm_exprcode.specs.Values.{rescaled}
use Rattle.psm_resolved.specs.Blocks.{Moved, put}
use Rattle.psm_resolved.specs.Outcomes.{at_scale, perhaps_not, valued}
use Rattle.psm_resolved.proofs.Lines.{fall_through}
use Rattle.psm_resolved.proofs.Operations.{one_fall_through, one_truth_fall_through, value_fall_through}
use Rattle.psm_meaning.specs.Acts.{Act, Meaning}
use Rattle.psm_meaning.specs.State.{State}
use Rattle.psm_meaning.specs.Values.{came, there}
use Rattle.psm_code.specs.declared.code.RawCode.{RawCode}
use Rattle.psm_code.specs.declared.code.RawRoutine.{RawRoutine}
use Rattle.psm_code.specs.Parts.{routine_at}
use Rattle.psm_code.specs.State.{Stepped, More}
use Rattle.psm_simulation.specs.Agreement.{Evaluates, IsReady, Leads, Spot, machine}
use Rattle.psm_simulation.specs.Expressions.{Operations, negating, scaling}
use Rattle.psm_simulation.specs.Simulation.{Evals}
use Rattle.psm_simulation.proofs.Evaluating.{evaluates-from, evaluates-operation, given_of}
use Rattle.psm_simulation.proofs.Runs.{leads-here}

-- ---- what operations end in, one after another

abbrev pub then_applied : Applied → (List Operand → Applied) → Applied
then_applied (Went FallThrough os) go = go os
then_applied (Went (Jump p) os) go = op.Stuck
then_applied (op.Raised s) go = op.Raised s
then_applied op.Stuck go = op.Stuck

abbrev pub performed : List Op → List Operand → List Datum → Applied
performed [] os vars = Went FallThrough os
performed (o ∷ rest) os vars = then_applied (applied o os [] vars) (λ ps. performed rest ps vars)

performed-after : (m : Moved) → then_applied (fall_through m) (λ os. Went FallThrough os) ≡ fall_through m
performed-after None = refl
performed-after (Some (Err s)) = refl
performed-after (Some (Ok os)) = refl

pub performed-one : (o : Op) (os : List Operand) (vars : List Datum) (m : Moved) → applied o os [] vars ≡ fall_through m → performed (o ∷ []) os vars ≡ fall_through m
performed-one o os vars m e = ap (λ a. then_applied a (λ ps. Went FallThrough ps)) e ∙ performed-after m

negated-after : (out : Outcome) (below : List Operand) (vars : List Datum) → then_applied (fall_through (put out below)) (λ ps. performed (ops.Not ∷ []) ps vars) ≡ fall_through (put (perhaps_not true out) below)
negated-after None below vars = refl
negated-after (Some (Err s)) below vars = refl
negated-after (Some (Ok x)) below vars = performed-one ops.Not (x ∷ below) vars (put (perhaps_not true (there x)) below) (one_truth_fall_through opposite (x ∷ below))

-- a condition, with NOT after it where it is wanted
pub performed-negating : (negated : Bool) (o : Op) (os : List Operand) (vars : List Datum) (out : Outcome) (below : List Operand) → applied o os [] vars ≡ fall_through (put out below)
    → performed (o ∷ negating negated) os vars ≡ fall_through (put (perhaps_not negated out) below)
performed-negating false o os vars out below e = performed-one o os vars (put out below) e
performed-negating true o os vars out below e = ap (λ a. then_applied a (λ ps. performed (ops.Not ∷ []) ps vars)) e ∙ negated-after out below vars

pub performed-scaling : (scale : Option ℕ) (x : Operand) (below : List Operand) (vars : List Datum) → performed (scaling scale) (x ∷ below) vars ≡ fall_through (put (at_scale scale (there x)) below)
performed-scaling None x below vars = refl
performed-scaling (Some s) x below vars =
    performed-one (ops.Rescale s) (x ∷ below) vars (put (at_scale (Some s) (there x)) below)
    (one_fall_through (λ d os. with_value os (rescaled s d)) (λ d. valued (rescaled s d)) (λ d os. value_fall_through os (rescaled s d)) (x ∷ below))

-- ---- runs

evaluates-then : (code : RawCode) (r : RawRoutine) (k following : ℕ) (spot : Spot) (from : Stepped) (mid to : List Operand → State → Stepped) (go : List Operand → Applied) (st : State)
    → ((ps : List Operand) → IsReady code spot st → Evaluates code r k following spot (mid ps st) to (given_of (go ps)) st)
    → (a : Applied) → Evaluates code r k following spot from mid (given_of a) st → Evaluates code r k following spot from to (given_of (then_applied a go)) st
evaluates-then code r k following spot from mid to go st h (Went FallThrough ps) c = evaluates-from code r k following spot to c.0 (given_of (go ps)) st (h ps c.1)
evaluates-then code r k following spot from mid to go st h (Went (Jump p) ps) c = tt
evaluates-then code r k following spot from mid to go st h (op.Raised s) c = c
evaluates-then code r k following spot from mid to go st h op.Stuck c = tt

-- lines that carry out operations, as one evaluation
pub evaluates-operations : (code : RawCode) (r : RawRoutine) (k following : ℕ) (spot : Spot) → routine_at code spot.number ≡ Some r → (os : List Op) (pc end : ℕ) (xs : List Operand) (st : State)
    → Operations r k following os pc end → IsReady code spot st → Evaluates code r k following spot (More (machine spot pc xs st)) (λ ps st. More (machine spot end ps st)) (given_of (performed os xs st.variables)) st
evaluates-operations code r k following spot p [] pc end xs st l d = (subst (λ n. Leads code (More (machine spot pc xs st)) (More (machine spot n xs st))) l leads-here, d)
evaluates-operations code r k following spot p (o ∷ os) pc end xs st l d =
    evaluates-then code r k following spot (More (machine spot pc xs st)) (λ ps st. More (machine spot (suc pc) ps st)) (λ ps st. More (machine spot end ps st)) (λ ps. performed os ps st.variables) st
    (λ ps e. evaluates-operations code r k following spot p os (suc pc) end ps st l.1 e) (applied o xs [] st.variables) (evaluates-operation code r k following spot p pc o xs st l.0 d)

-- an evaluation that begins with some operands at a line and leaves others at a line
abbrev pub Gives : RawCode → RawRoutine → ℕ → ℕ → Spot → Meaning → {A : Type 0} → Act A → ℕ → List Operand → ℕ → (A → List Operand) → Type 0
Gives code r k following spot m act pc os end to = Evals code r k following spot m act (λ st. More (machine spot pc os st)) (λ x st. More (machine spot end (to x) st))

came-put : (code : RawCode) (r : RawRoutine) (k following : ℕ) (spot : Spot) (from : Stepped) (end : ℕ) (below : List Operand) (m : Meaning) (st : State)
    → (out : Outcome) → Evaluates code r k following spot from (λ ps st. More (machine spot end ps st)) (given_of (fall_through (put out below))) st
    → Evaluates code r k following spot from (λ x st. More (machine spot end (x ∷ below) st)) (came out m st).given (came out m st).state
came-put code r k following spot from end below m st None c = c
came-put code r k following spot from end below m st (Some (Err s)) c = c
came-put code r k following spot from end below m st (Some (Ok x)) c = c

-- operations that put an outcome on the operands below
pub gives-performed : (code : RawCode) (r : RawRoutine) (k following : ℕ) (spot : Spot) (m : Meaning) → routine_at code spot.number ≡ Some r → (os : List Op) (pc end : ℕ) (xs below : List Operand) (out : List Datum → Outcome)
    → Operations r k following os pc end → ((vars : List Datum) → performed os xs vars ≡ fall_through (put (out vars) below)) → Gives code r k following spot m (λ n st. came (out st.variables) n st) pc xs end (λ x. x ∷ below)
gives-performed code r k following spot m p os pc end xs below out l h = record {
  by = λ st d. came-put code r k following spot (More (machine spot pc xs st)) end below m st (out st.variables)
      (subst (λ a. Evaluates code r k following spot (More (machine spot pc xs st)) (λ ps st. More (machine spot end ps st)) (given_of a) st) (h st.variables) (evaluates-operations code r k following spot p os pc end xs st l d));
}
