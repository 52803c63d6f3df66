-- Calls of functions.
use Rattle.std.proofs.Common.{◌≡◌, ℕ, zero, suc, Bool, true, false, List, [], ◌∷◌, filter, length, slice_get, refl, sym, subst, Option, Some, None, IfSome, if◌then◌else◌}
use Rattle.psm_value.specs.declared.datum.Datum.{Datum}
use Rattle.psm_value.specs.declared.sqltype.SqlType.{SqlType}
use Rattle.psm_exprcode.specs.declared.operand.Operand.{Operand}
use Rattle.psm_resolved.specs.declared.file.ResolvedFile.{ResolvedFile}
use Rattle.psm_resolved.specs.declared.file.ResolvedRoutine.{ResolvedRoutine}
use Rattle.psm_meaning.specs.Acts as meaning
use Rattle.psm_meaning.specs.Acts.{Meaning}
use Rattle.psm_meaning.specs.Calls.{activated, called, result_of, returns}
use Rattle.psm_meaning.specs.State.{State}
use Rattle.psm_code.specs.declared.code.RawCode.{RawCode}
use Rattle.psm_code.specs.declared.code.RawRoutine.{RawRoutine}
use Rattle.psm_code.specs.declared.instruction.Instruction.TheVariants as instruction
use Rattle.psm_code.specs.Parts.{routine_at}
use Rattle.psm_code.specs.Run.{call_from, settled}
use Rattle.psm_simulation.specs.Agreement.{Evaluates, IsReady, Spot, machine}
use Rattle.psm_simulation.specs.Env.{Raising}
use Rattle.psm_simulation.specs.Expressions.{IsFunction, Takes, stacked}
use Rattle.psm_simulation.specs.Simulation.{Evals, FileStands, Simulates}
use Rattle.psm_simulation.proofs.Calling.{call-rests}
use Rattle.psm_simulation.proofs.Doing.{at_line}
use Rattle.psm_simulation.proofs.Evaluating.{evaluates-from}
use Rattle.psm_simulation.proofs.Returning.{function-evaluates}
use Rattle.psm_simulation.proofs.Runs.{leads-line}

-- what is left by a filter meets its test
filtered-first : {A : Type 0} (p : A → Bool) (x : A) (xs : List A) (b : Bool) → p x ≡ b → ((i : ℕ) → IfSome (slice_get (filter p xs) i) (λ y. p y ≡ true)) → (i : ℕ) → IfSome (slice_get (if b then x ∷ filter p xs else filter p xs) i) (λ y. p y ≡ true)
filtered-first p x xs true e h zero = e
filtered-first p x xs true e h (suc i) = h i
filtered-first p x xs false e h i = h i

pub filtered : {A : Type 0} (p : A → Bool) (xs : List A) (i : ℕ) → IfSome (slice_get (filter p xs) i) (λ y. p y ≡ true)
filtered p [] i = tt
filtered p (x ∷ xs) i = filtered-first p x xs (p x) refl (filtered p xs) i

-- a function has the type of its result
abbrev Returning : ResolvedRoutine → Type 0
Returning routine = (t : SqlType) × (routine.returns ≡ Some t)

returning : (y : Option SqlType) → returns y ≡ true → (t : SqlType) × (y ≡ Some t)
returning None e = absurd (cc (e))
returning (Some t) e = (t, refl)

module _ (file : ResolvedFile) (code : RawCode) (m : Meaning) (stands : FileStands file code) (sim : Simulates file code m) (r : RawRoutine) (spot : Spot) (there : routine_at code spot.number ≡ Some r) (k following : ℕ) where
  called-evaluates : (pc n : ℕ) → Raising r k following pc (instruction.FunctionCall n) → (args : List Datum) (below : List Operand) (st : State) → IsReady code spot st → (x : Option ResolvedRoutine) → slice_get file.routines n ≡ x → Takes (length args) x → IfSome x (λ q. returns q.returns ≡ true)
      → Evaluates code r k following spot (settled code (call_from code n (machine spot pc (stacked args below) st)).given (call_from code n (machine spot pc (stacked args below) st)).machine) (λ y. at_line spot (suc pc) (y ∷ below))
      (meaning.◌>>=◌ (meaning.present x) (λ q. meaning.◌>>=◌ (activated q args) (λ e. result_of e.returned)) m st).given (meaning.◌>>=◌ (meaning.present x) (λ q. meaning.◌>>=◌ (activated q args) (λ e. result_of e.returned)) m st).state
  called-evaluates pc n l args below st d None e t f = tt
  called-evaluates pc n l args below st d (Some routine) e t f =
      let q = stands.routines n routine e in
      let kind = returning routine.returns f in
      call-rests code r k following spot m pc _ l.there refl refl below n file q.0 routine q.1 q.2 args t st d (λ y. at_line spot (suc pc) (y ∷ below)) (λ e. result_of e.returned)
      (λ ps now deep. function-evaluates file code r k following spot m there pc _ l.there refl refl below sim n q.0 routine q.2 q.1 kind.0 kind.1 ps now deep)

  pub called-evals : (pc n function : ℕ) (args : List Datum) → IsFunction file function n (length args) → Raising r k following pc (instruction.FunctionCall n) → (below : List Operand)
      → Evals code r k following spot m (called file function args) (at_line spot pc (stacked args below)) (λ x. at_line spot (suc pc) (x ∷ below))
  called-evals pc n function args f l below =
      let test : ResolvedRoutine → Bool = λ q. returns q.returns in
      let whole : Option ResolvedRoutine → Type 0 = λ x. (st : State) → IsReady code spot st → Evaluates code r k following spot (settled code (call_from code n (machine spot pc (stacked args below) st)).given (call_from code n (machine spot pc (stacked args below) st)).machine) (λ y. at_line spot (suc pc) (y ∷ below))
      (meaning.◌>>=◌ (meaning.present x) (λ q. meaning.◌>>=◌ (activated q args) (λ e. result_of e.returned)) m st).given (meaning.◌>>=◌ (meaning.present x) (λ q. meaning.◌>>=◌ (activated q args) (λ e. result_of e.returned)) m st).state in
      let is_one : IfSome (slice_get file.routines n) (λ q. test q ≡ true) = subst (λ x. IfSome x (λ q. test q ≡ true)) f.0 (filtered test file.routines function) in
      let here : whole (slice_get file.routines n) = λ st d. called-evaluates pc n l args below st d (slice_get file.routines n) refl f.1 is_one in
      let there_ : whole (slice_get (filter test file.routines) function) = subst whole (sym f.0) here in
      record { by = λ st d. evaluates-from code r k following spot (λ y. at_line spot (suc pc) (y ∷ below)) (leads-line there l.there) (called file function args m st).given (called file function args m st).state (there_ st d) }
