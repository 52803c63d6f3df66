-- Evaluations under two meanings of their parts, of which the second has more fuel.
use Rattle.std.proofs.Common.{inl, inr, ℕ, zero, suc, Bool, true, false, List, [], ◌∷◌, refl, ap, subst, if◌then◌else◌}
use Rattle.psm_resolved.specs.declared.expr.ResolvedExpr.{ResolvedExpr}
use Rattle.psm_meaning.specs.State.{State}
use Rattle.psm_meaning.specs.Acts.{Given, Got, Raises, Ends, Evaluated, Meaning, Act, go_on, ◌>>=◌, spent, turn, operand, value_of, truth_of, values}
use Rattle.psm_meaning.specs.Fits.{Same, Fits}
use Rattle.psm_meaning.proofs.Pure.{Pure, pure-as_value, pure-as_truth, pure-got}

-- wherever the fuel was enough for an evaluation under the first meaning, it is the same under the second
pub record Grows (m n : Meaning) {A : Type 0} (act : Act A) : Type 0 where
  pub same : (st : State) → Same (act m st) (act n st)

going : {m n : Meaning} {A B : Type 0} (g : Given A) (go : A → Act B) (st : State) → ((a : A) → Grows m n (go a)) → Same (go_on g go m st) (go_on g go n st)
going (Got a) go st h = (h a).same st
going (Raises c) go st h = inr refl
going (Ends stop) go st h = inr refl

then_one : {m n : Meaning} {A B : Type 0} (r s : Evaluated A) (go : A → Act B) → Same r s → ((a : A) → Grows m n (go a)) → Same (go_on r.given go m r.state) (go_on s.given go n s.state)
then_one {m = m} r s go (inl e) h = inl (ap (λ g. (go_on g go m r.state).given) e)
then_one {m = m} {n = n} r s go (inr p) h = subst (λ x. Same (go_on r.given go m r.state) (go_on x.given go n x.state)) p (going r.given go r.state h)

pub grows-bind : {m n : Meaning} {A B : Type 0} {act : Act A} {go : A → Act B} → Grows m n act → ((a : A) → Grows m n (go a)) → Grows m n (◌>>=◌ act go)
grows-bind {m = m} {n = n} {act = act} {go = go} p h = record { same = λ st. then_one (act m st) (act n st) go (p.same st) h }

-- what rests on no meaning
pub grows-pure : {m n : Meaning} {A : Type 0} {act : Act A} → Pure act → Grows m n act
grows-pure {m = m} {n = n} p = record { same = λ st. inr (p.same m n st) }

grows-spent : {m n : Meaning} (turns : ℕ) → Grows m n (spent turns)
grows-spent zero = record { same = λ st. inr refl }
grows-spent (suc left) = record { same = λ st. inr refl }

pub grows-turn : {m n : Meaning} → Grows m n turn
grows-turn = record { same = λ st. (grows-spent st.turns).same st }

-- one of two
pub grows-if : {m n : Meaning} {A : Type 0} (b : Bool) {p q : Act A} → Grows m n p → Grows m n q → Grows m n (if b then p else q)
grows-if true h k = h
grows-if false h k = k

-- ---- expressions

pub grows-operand : {m n : Meaning} → Fits m n → (e : ResolvedExpr) → Grows m n (operand e)
grows-operand fits e = record { same = fits.value e }

pub grows-value_of : {m n : Meaning} → Fits m n → (e : ResolvedExpr) → Grows m n (value_of e)
grows-value_of fits e = grows-bind (grows-operand fits e) (λ x. grows-pure (pure-as_value x))

pub grows-truth_of : {m n : Meaning} → Fits m n → (e : ResolvedExpr) → Grows m n (truth_of e)
grows-truth_of fits e = grows-bind (grows-operand fits e) (λ x. grows-pure (pure-as_truth x))

pub grows-values : {m n : Meaning} → Fits m n → (es : List ResolvedExpr) → Grows m n (values es)
grows-values fits [] = grows-pure (pure-got [])
grows-values fits (e ∷ es) = grows-bind (grows-value_of fits e) (λ d. grows-bind (grows-values fits es) (λ ds. grows-pure (pure-got (d ∷ ds))))
