-- What fuel is enough for: evaluations and what is done, from at most n turns on, under a meaning of their parts.
use Rattle.std.proofs.Common.{arith, ◌≡◌, ◌≤◌, ℕ, zero, suc, Bool, true, false, Option, Some, None, IfSome, List, [], ◌∷◌, refl, if◌then◌else◌}
use Rattle.psm_resolved.specs.declared.expr.ResolvedExpr.{ResolvedExpr}
use Rattle.psm_resolved.specs.declared.file.ResolvedFile.{ResolvedFile}
use Rattle.psm_meaning.specs.State.{State, EvalContext}
use Rattle.psm_meaning.specs.Acts.{Given, Got, Raises, Ends, Evaluated, Outcome, Normal, Leave, Iterate, Return, Raised, Away, Stopped, Task, Meaning, Act, go_on, ◌>>=◌, ◌>>◌, present, spent, turn, operand, value_of, truth_of, values, Deed}
use Rattle.psm_meaning.specs.Fuel.{expr_size, exprs_size, file_size}
use Rattle.psm_meaning.specs.Enough.{AreWithin, IsActionWithin}
use Rattle.psm_meaning.proofs.Pure.{IsHigh, High, Pure, pure-as_value, pure-as_truth, pure-got}
use Rattle.psm_meaning.proofs.Sizes.{task_size}

-- ---- evaluations: they come to something with no more turns

pub record Well {A : Type 0} (turns : ℕ) (r : Evaluated A) : Type 0 where
  pub high : High r.given
  pub left : r.state.turns ≤ turns

pub record Keeps (m : Meaning) (turns : ℕ) {A : Type 0} (act : Act A) : Type 0 where
  pub well : (st : State) → st.turns ≤ turns → Well st.turns (act m st)

pub keeps-pure : {m : Meaning} {turns : ℕ} {A : Type 0} {act : Act A} → Pure act → Keeps m turns act
keeps-pure {m = m} p = record { well = λ st q. record { high = p.high m st; left = omega (arith, p.turns m st) } }

well-more : {A : Type 0} {few many : ℕ} {r : Evaluated A} → few ≤ many → Well few r → Well many r
well-more p w = record { high = w.high; left = omega (arith, p, w.left) }

well-going : {m : Meaning} {turns : ℕ} {A B : Type 0} (g : Given A) (go : A → Act B) (st : State) → st.turns ≤ turns → High g → ((a : A) → Keeps m turns (go a)) → Well st.turns (go_on g go m st)
well-going (Got a) go st p q h = (h a).well st p
well-going (Raises c) go st p q h = record { high = tt; left = omega arith }
well-going (Ends stop) go st p q h = record { high = q; left = omega arith }

pub keeps-bind : {m : Meaning} {turns : ℕ} {A B : Type 0} {act : Act A} {go : A → Act B} → Keeps m turns act → ((a : A) → Keeps m turns (go a)) → Keeps m turns (◌>>=◌ act go)
keeps-bind {m = m} {act = act} {go = go} k h = record {
  well = λ st p. let w = k.well st p in
      well-more w.left (well-going (act m st).given go (act m st).state (omega (arith, w.left, p)) w.high h);
}

-- what is there has what all that can be there have
pub keeps-present : {m : Meaning} {turns : ℕ} {A B : Type 0} (P : A → Type 0) (x : Option A) {go : A → Act B} → IfSome x P → ((a : A) → P a → Keeps m turns (go a)) → Keeps m turns (◌>>=◌ (present x) go)
keeps-present P None i h = record { well = λ st p. record { high = tt; left = omega arith } }
keeps-present P (Some a) i h = record { well = λ st p. (h a i).well st p }

-- after a turn there are fewer
well-spent : {m : Meaning} {turns : ℕ} {A : Type 0} {next : Act A} → ((left : ℕ) → suc left ≤ turns → Keeps m left next) → (n : ℕ) (st : State) → n ≤ turns → st.turns ≡ n → Well n (go_on (spent n m st).given (λ u. next) m (spent n m st).state)
well-spent h zero st p e = record { high = tt; left = omega (arith, e) }
well-spent h (suc left) st p e = well-more (omega arith) ((h left p).well (record st { turns = left }) (omega arith))

pub keeps-turn : {m : Meaning} {turns : ℕ} {A : Type 0} {next : Act A} → ((left : ℕ) → suc left ≤ turns → Keeps m left next) → Keeps m turns (◌>>◌ turn next)
keeps-turn h = record { well = λ st p. well-spent h st.turns st p refl }

pub keeps-if : {m : Meaning} {turns : ℕ} {A : Type 0} (b : Bool) {p q : Act A} → Keeps m turns p → Keeps m turns q → Keeps m turns (if b then p else q)
keeps-if true h k = h
keeps-if false h k = k

-- ---- what is done: it comes to something with no more turns, and with fewer where the action of a handler is still to be run

abbrev pub Paid : ResolvedFile → ℕ → ℕ → Outcome → Type 0
Paid file turns left Normal = left ≤ turns
Paid file turns left (Leave level) = left ≤ turns
Paid file turns left (Iterate level) = left ≤ turns
Paid file turns left (Return d) = left ≤ turns
Paid file turns left (Raised c) = left ≤ turns
Paid file turns left (Away level h c) = (suc left ≤ turns) × IsActionWithin file h
Paid file turns left (Stopped stop) = (left ≤ turns) × IsHigh stop

pub paid-more : (file : ResolvedFile) {few many : ℕ} (left : ℕ) → few ≤ many → (o : Outcome) → Paid file few left o → Paid file many left o
paid-more file left p Normal q = omega (arith, p, q)
paid-more file left p (Leave level) q = omega (arith, p, q)
paid-more file left p (Iterate level) q = omega (arith, p, q)
paid-more file left p (Return d) q = omega (arith, p, q)
paid-more file left p (Raised c) q = omega (arith, p, q)
paid-more file left p (Away level h c) q = (omega (arith, p, q.0), q.1)
paid-more file left p (Stopped stop) q = (omega (arith, p, q.0), q.1)

pub record Pays (file : ResolvedFile) (m : Meaning) (turns : ℕ) (deed : Deed) : Type 0 where
  pub paid : (st : State) → st.turns ≤ turns → Paid file st.turns (deed m st).state.turns (deed m st).outcome

-- ---- parts that are no greater than so much

pub record Parts (file : ResolvedFile) (m : Meaning) (turns size : ℕ) : Type 0 where
  pub value : (e : ResolvedExpr) → expr_size e ≤ size → Keeps m turns (operand e)
  pub done : (t : Task) (eval_context : EvalContext) → AreWithin file eval_context.scopes → task_size t ≤ size → Pays file m turns (λ n st. n.done t eval_context st)

-- what is no greater than the file, wherever a turn was used
abbrev pub Later : ResolvedFile → Meaning → ℕ → Type 0
Later file m turns = (left : ℕ) → suc left ≤ turns → Parts file m left (file_size file)

pub later-le : {file : ResolvedFile} {m : Meaning} {few many : ℕ} → few ≤ many → Later file m many → Later file m few
later-le p h left q = h left (omega (arith, p, q))

-- ---- expressions

-- expressions that are no greater than so much
abbrev pub Values : Meaning → ℕ → ℕ → Type 0
Values m turns size = (e : ResolvedExpr) → expr_size e ≤ size → Keeps m turns (operand e)

pub keeps-value_of : {m : Meaning} {turns size : ℕ} → Values m turns size → (e : ResolvedExpr) → expr_size e ≤ size → Keeps m turns (value_of e)
keeps-value_of v e p = keeps-bind (v e p) (λ x. keeps-pure (pure-as_value x))

pub keeps-truth_of : {m : Meaning} {turns size : ℕ} → Values m turns size → (e : ResolvedExpr) → expr_size e ≤ size → Keeps m turns (truth_of e)
keeps-truth_of v e p = keeps-bind (v e p) (λ x. keeps-pure (pure-as_truth x))

pub keeps-values : {m : Meaning} {turns size : ℕ} → Values m turns size → (es : List ResolvedExpr) → exprs_size es ≤ size → Keeps m turns (values es)
keeps-values v [] p = keeps-pure (pure-got [])
keeps-values v (e ∷ es) p = keeps-bind (keeps-value_of v e (omega (arith, p))) (λ d. keeps-bind (keeps-values v es (omega (arith, p))) (λ ds. keeps-pure (pure-got (d ∷ ds))))
