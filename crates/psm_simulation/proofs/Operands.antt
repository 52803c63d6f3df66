-- Operands from expressions: values, truth values, and several of them from the left.
use Rattle.std.proofs.Common.{◌≡◌, ℕ, suc, List, [], ◌∷◌, length, refl, ap, subst}
use Rattle.psm_value.specs.declared.datum.Datum.{Datum}
use Rattle.psm_exprcode.specs.declared.operand.Operand.{Operand}
use Rattle.psm_exprcode.specs.declared.operand.Operand.TheVariants.{Value, Truth}
use Rattle.psm_resolved.specs.declared.expr.ResolvedExpr.{ResolvedExpr}
use Rattle.psm_resolved.specs.declared.file.ResolvedFile.{ResolvedFile}
use Rattle.psm_meaning.specs.Acts.{Act, Evaluated, Given, Got, Raises, Ends, Meaning, as_truth, as_value, go_on, got, operand, truth_of, value_of, values, ◌>>=◌}
use Rattle.psm_meaning.specs.State.{State}
use Rattle.psm_meaning.specs.Values.{operands}
use Rattle.psm_code.specs.declared.code.RawCode.{RawCode}
use Rattle.psm_code.specs.declared.code.RawRoutine.{RawRoutine}
use Rattle.psm_code.specs.State.{Stepped, More}
use Rattle.psm_simulation.specs.Agreement.{Evaluates, Leads, Spot, machine}
use Rattle.psm_simulation.specs.Expressions.{Puts, PutsAll, none, more, stacked}
use Rattle.psm_simulation.specs.Simulation.{Evals}
use Rattle.psm_simulation.proofs.Evaluating.{evals-bind, evals-got}
use Rattle.psm_simulation.proofs.Operating.{Gives}
use Rattle.psm_simulation.proofs.Runs.{leads-to}

-- ---- evaluations

evaluates-onto : (code : RawCode) (r : RawRoutine) (k following : ℕ) (spot : Spot) (from : Stepped) {A : Type 0} (to next : A → State → Stepped) → ((x : A) (st : State) → Leads code (to x st) (next x st))
    → (g : Given A) (st : State) → Evaluates code r k following spot from to g st → Evaluates code r k following spot from next g st
evaluates-onto code r k following spot from to next h (Got x) st c = (leads-to c.0 (h x st), c.1)
evaluates-onto code r k following spot from to next h (Raises e) st c = c
evaluates-onto code r k following spot from to next h (Ends stop) st c = c

-- a run that leads on after
pub evals-onto : {code : RawCode} {r : RawRoutine} {k following : ℕ} {spot : Spot} {m : Meaning} {A : Type 0} {act : Act A} {from : State → Stepped} {to next : A → State → Stepped}
    → Evals code r k following spot m act from to → ((x : A) (st : State) → Leads code (to x st) (next x st)) → Evals code r k following spot m act from next
evals-onto {code = code} {r = r} {k = k} {following = following} {spot = spot} {m = m} {act = act} {from = from} {to = to} {next = next} p h =
    record { by = λ st d. evaluates-onto code r k following spot (from st) to next h (act m st).given (act m st).state (p.by st d) }

regrouped : {A B C : Type 0} (g : Given A) (f : A → Act B) (h : B → Act C) (m : Meaning) (st : State) → go_on g (λ x. ◌>>=◌ (f x) h) m st ≡ go_on (go_on g f m st).given h m (go_on g f m st).state
regrouped (Got x) f h m st = refl
regrouped (Raises e) f h m st = refl
regrouped (Ends stop) f h m st = refl

-- three evaluations may be grouped either way
pub evals-regrouped : {code : RawCode} {r : RawRoutine} {k following : ℕ} {spot : Spot} {m : Meaning} {A B C : Type 0} (act : Act A) (f : A → Act B) (h : B → Act C) (from : State → Stepped) (to : C → State → Stepped)
    → Evals code r k following spot m (◌>>=◌ act (λ x. ◌>>=◌ (f x) h)) from to → Evals code r k following spot m (◌>>=◌ (◌>>=◌ act f) h) from to
evals-regrouped {code = code} {r = r} {k = k} {following = following} {spot = spot} {m = m} {C = C} act f h from to p = record {
  by = λ st d. let S : Evaluated C → Type 0 = λ e. Evaluates code r k following spot (from st) to e.given e.state in
      subst S (regrouped (act m st).given f h m (act m st).state) (p.by st d);
}

-- ---- operands

-- the lines of each expression do what the meaning says
abbrev pub Yields : ResolvedFile → RawCode → RawRoutine → ℕ → ℕ → Spot → Meaning → Type 0
Yields file code r k following spot m = (e : ResolvedExpr) (pc end : ℕ) → Puts file code r k following e pc end → (below : List Operand) → Gives code r k following spot m (operand e) pc below end (λ x. x ∷ below)

-- operands are put on those below, from the first on
abbrev pub piled : List Operand → List Operand → List Operand
piled [] below = below
piled (x ∷ xs) below = piled xs (x ∷ below)

module _ (file : ResolvedFile) (code : RawCode) (r : RawRoutine) (k following : ℕ) (spot : Spot) (m : Meaning) (yields : Yields file code r k following spot m) where
  gives-value : (x : Operand) (pc : ℕ) (below : List Operand) → Gives code r k following spot m (as_value x) pc (x ∷ below) pc (λ d. Value d ∷ below)
  gives-value (Value d) pc below = evals-got
  gives-value (Truth t) pc below = record { by = λ st d. tt }

  gives-truth : (x : Operand) (pc : ℕ) (below : List Operand) → Gives code r k following spot m (as_truth x) pc (x ∷ below) pc (λ t. Truth t ∷ below)
  gives-truth (Value d) pc below = record { by = λ st d. tt }
  gives-truth (Truth t) pc below = evals-got

  pub gives-value_of : (e : ResolvedExpr) (pc end : ℕ) → Puts file code r k following e pc end → (below : List Operand) → Gives code r k following spot m (value_of e) pc below end (λ d. Value d ∷ below)
  gives-value_of e pc end p below = evals-bind (yields e pc end p below) (λ x. gives-value x end below)

  pub gives-truth_of : (e : ResolvedExpr) (pc end : ℕ) → Puts file code r k following e pc end → (below : List Operand) → Gives code r k following spot m (truth_of e) pc below end (λ t. Truth t ∷ below)
  gives-truth_of e pc end p below = evals-bind (yields e pc end p below) (λ x. gives-truth x end below)

  pub gives-values : (es : List ResolvedExpr) (pc end : ℕ) → PutsAll file code r k following es pc end → (below : List Operand) → Gives code r k following spot m (values es) pc below end (λ ds. stacked ds below)
  gives-values [] pc end none below = evals-got
  gives-values (e ∷ es) pc end (more {mid = mid} p q) below =
      evals-bind (gives-value_of e pc mid p below) (λ d. evals-bind (gives-values es mid end q (Value d ∷ below)) (λ ds. evals-got))

  -- what is made of as many values
  pub gives-values-with : {B : Type 0} (es : List ResolvedExpr) (go : List Datum → Act B) (pc mid end : ℕ) (below : List Operand) (to : B → List Operand) → PutsAll file code r k following es pc mid
      → ((ds : List Datum) → length ds ≡ length es → Gives code r k following spot m (go ds) mid (stacked ds below) end to) → Gives code r k following spot m (◌>>=◌ (values es) go) pc below end to
  gives-values-with [] go pc mid end below to none h = h [] refl
  gives-values-with (e ∷ es) go pc mid end below to (more {mid = next} p q) h =
      evals-regrouped (value_of e) (λ d. ◌>>=◌ (values es) (λ ds. got (d ∷ ds))) go (λ st. More (machine spot pc below st)) (λ x st. More (machine spot end (to x) st))
      (evals-bind (gives-value_of e pc next p below) (λ d. evals-regrouped (values es) (λ ds. got (d ∷ ds)) go (λ st. More (machine spot next (Value d ∷ below) st)) (λ y st. More (machine spot end (to y) st))
      (gives-values-with es (λ ds. go (d ∷ ds)) next mid end (Value d ∷ below) to q (λ ds n. h (d ∷ ds) (ap suc n)))))

  -- operands, and what is made of as many of them
  pub gives-operands : {B : Type 0} (es : List ResolvedExpr) (go : List Operand → Act B) (pc mid end : ℕ) (below : List Operand) (to : B → List Operand) → PutsAll file code r k following es pc mid
      → ((xs : List Operand) → length xs ≡ length es → Gives code r k following spot m (go xs) mid (piled xs below) end to) → Gives code r k following spot m (◌>>=◌ (operands es) go) pc below end to
  gives-operands [] go pc mid end below to none h = h [] refl
  gives-operands (e ∷ es) go pc mid end below to (more {mid = next} p q) h =
      evals-regrouped (operand e) (λ x. ◌>>=◌ (operands es) (λ xs. got (x ∷ xs))) go (λ st. More (machine spot pc below st)) (λ x st. More (machine spot end (to x) st))
      (evals-bind (yields e pc next p below) (λ x. evals-regrouped (operands es) (λ xs. got (x ∷ xs)) go (λ st. More (machine spot next (x ∷ below) st)) (λ y st. More (machine spot end (to y) st))
      (gives-operands es (λ xs. go (x ∷ xs)) next mid end (x ∷ below) to q (λ xs n. h (x ∷ xs) (ap suc n)))))
