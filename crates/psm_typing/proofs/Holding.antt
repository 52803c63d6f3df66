-- Evaluations that are never stuck in states that fit a typing context, and leave such a state.
use Rattle.std.proofs.Common.{◌≡◌, ℕ, zero, suc, Bool, true, false, Option, Some, None, Result, Ok, Err, refl, sym, subst, if◌then◌else◌}
use Rattle.psm_sqlstate.specs.declared.state.SqlState.{SqlState}
use Rattle.psm_value.specs.declared.datum.Datum.{Datum}
use Rattle.psm_cond.specs.Area.{Diagnostics}
use Rattle.psm_cond.specs.Condition.{Entries}
use Rattle.psm_exprcode.specs.declared.op.Letter.{Letter}
use Rattle.psm_exprcode.specs.declared.op.Letter.TheVariants.{B}
use Rattle.psm_exprcode.specs.declared.operand.Operand.{Operand}
use Rattle.psm_exprcode.specs.declared.operand.Operand.TheVariants.{Value, Truth}
use Rattle.psm_exprcode.specs.Kinds.{has_letter, is_of, is_value}
use Rattle.psm_meaning.specs.State.{State, cleared, put_back}
use Rattle.psm_meaning.specs.Acts.{Given, Got, Raises, Ends, Evaluated, Meaning, Act, as_truth, as_value, change, go_on, got, present, raises, read, spent, tried, turn, ◌>>=◌}
use Rattle.psm_typing.specs.TypingContext.{TypingContext, IsThere}
use Rattle.psm_typing.specs.States.{IsState}
use Rattle.psm_typing.specs.Ends.{IsDue}
use Rattle.psm_typing.proofs.Evaluates.{no_truth, no_value}

abbrev pub Sat : {A : Type 0} → (A → Type 0) → Given A → Type 0
Sat P (Got a) = P a
Sat P (Raises c) = Unit {0}
Sat P (Ends stop) = IsDue stop

abbrev pub Anything : {A : Type 0} → A → Type 0
Anything a = Unit {0}

pub record Well (e : TypingContext) {A : Type 0} (P : A → Type 0) (r : Evaluated A) : Type 0 where
  pub state : IsState e r.state
  pub given : Sat P r.given

pub record Holds (e : TypingContext) (m : Meaning) {A : Type 0} (P : A → Type 0) (act : Act A) : Type 0 where
  pub well : (st : State) → IsState e st → Well e P (act m st)

going : {e : TypingContext} {m : Meaning} {A B : Type 0} (P : A → Type 0) (Q : B → Type 0) (g : Given A) (go : A → Act B) (st : State) → IsState e st → Sat P g → ((a : A) → P a → Holds e m Q (go a)) → Well e Q (go_on g go m st)
going P Q (Got a) go st s p h = (h a p).well st s
going P Q (Raises c) go st s p h = record { state = s; given = tt }
going P Q (Ends stop) go st s p h = record { state = s; given = p }

pub holds-bind : {e : TypingContext} {m : Meaning} {A B : Type 0} {P : A → Type 0} {Q : B → Type 0} {act : Act A} {go : A → Act B} → Holds e m P act → ((a : A) → P a → Holds e m Q (go a)) → Holds e m Q (◌>>=◌ act go)
holds-bind {m = m} {P = P} {Q = Q} {act = act} {go = go} p h = record { well = λ st s. going P Q (act m st).given go (act m st).state (p.well st s).state (p.well st s).given h }

pub holds-got : {e : TypingContext} {m : Meaning} {A : Type 0} {P : A → Type 0} (a : A) → P a → Holds e m P (got a)
holds-got a p = record { well = λ st s. record { state = s; given = p } }

pub holds-raises : {e : TypingContext} {m : Meaning} {A : Type 0} {P : A → Type 0} (c : Entries) → Holds e m P (raises c)
holds-raises c = record { well = λ st s. record { state = s; given = tt } }

pub holds-read : {e : TypingContext} {m : Meaning} {A : Type 0} {P : A → Type 0} (f : State → A) → ((st : State) → IsState e st → P (f st)) → Holds e m P (read f)
holds-read f h = record { well = λ st s. record { state = s; given = h st s } }

pub holds-change : {e : TypingContext} {m : Meaning} (f : State → State) → ((st : State) → IsState e st → IsState e (f st)) → Holds e m Anything (change f)
holds-change f h = record { well = λ st s. record { state = h st s; given = tt } }

pub state-cleared : {e : TypingContext} (st : State) → IsState e st → IsState e (cleared st)
state-cleared st s = record { tables = s.tables; variables = s.variables; cursors = s.cursors }

pub state-put_back : {e : TypingContext} (area : Diagnostics) (st : State) → IsState e st → IsState e (put_back area st)
state-put_back area st s = record { tables = s.tables; variables = s.variables; cursors = s.cursors }

pub holds-cleared : {e : TypingContext} {m : Meaning} → Holds e m Anything (change cleared)
holds-cleared = holds-change cleared state-cleared

-- what is there
pub holds-present : {e : TypingContext} {m : Meaning} {A : Type 0} {P : A → Type 0} (o : Option A) (a : A) → o ≡ Some a → P a → Holds e m P (present o)
holds-present {e = e} {m = m} {P = P} o a h p = subst (λ x. Holds e m P (present x)) (sym h) (holds-got a p)

pub holds-there : {e : TypingContext} {m : Meaning} {A : Type 0} {P : A → Type 0} (o : Option A) → IsThere o → ((a : A) → o ≡ Some a → P a) → Holds e m P (present o)
holds-there None h p = absurd h
holds-there (Some a) h p = holds-got a (p a refl)

pub holds-tried : {e : TypingContext} {m : Meaning} {A : Type 0} {P : A → Type 0} (r : Result A SqlState) → ((a : A) → r ≡ Ok a → P a) → Holds e m P (tried r)
holds-tried (Ok a) h = holds-got a (h a refl)
holds-tried (Err s) h = holds-raises _

pub holds-if : {e : TypingContext} {m : Meaning} {A : Type 0} {P : A → Type 0} (b : Bool) {p q : Act A} → Holds e m P p → Holds e m P q → Holds e m P (if b then p else q)
holds-if true h k = h
holds-if false h k = k

sat-more : {A : Type 0} (P Q : A → Type 0) (g : Given A) → ((a : A) → P a → Q a) → Sat P g → Sat Q g
sat-more P Q (Got a) h p = h a p
sat-more P Q (Raises c) h p = tt
sat-more P Q (Ends stop) h p = p

pub holds-more : {e : TypingContext} {m : Meaning} {A : Type 0} (P Q : A → Type 0) {act : Act A} → ((a : A) → P a → Q a) → Holds e m P act → Holds e m Q act
holds-more {m = m} P Q {act = act} h k = record { well = λ st s. record { state = (k.well st s).state; given = sat-more P Q (act m st).given h (k.well st s).given } }

holds-spent : {e : TypingContext} {m : Meaning} (turns : ℕ) → Holds e m Anything (spent turns)
holds-spent zero = record { well = λ st s. record { state = s; given = tt } }
holds-spent (suc left) = holds-change _ (λ st s. record { tables = s.tables; variables = s.variables; cursors = s.cursors })

pub holds-turn : {e : TypingContext} {m : Meaning} → Holds e m Anything turn
holds-turn {e = e} {m = m} = record { well = λ st s. let h : Holds e m Anything (spent st.turns) = holds-spent st.turns in h.well st s }

-- ---- operands of letters

abbrev pub IsOf : Letter → Operand → Type 0
IsOf k x = is_of k x ≡ true

abbrev pub HasLetter : Letter → Datum → Type 0
HasLetter k d = has_letter k d ≡ true

pub holds-as_value : {e : TypingContext} {m : Meaning} (k : Letter) (x : Operand) → is_value k ≡ true → IsOf k x → Holds e m (HasLetter k) (as_value x)
holds-as_value k (Value d) v h = holds-got d h
holds-as_value k (Truth t) v h = absurd (no_truth k v h)

pub holds-as_truth : {e : TypingContext} {m : Meaning} (x : Operand) → IsOf B x → Holds e m Anything (as_truth x)
holds-as_truth (Value d) h = absurd (no_value d h)
holds-as_truth (Truth t) h = holds-got t tt
