-- Evaluations that rest on no meaning of expressions and statements: they are the same under every one, want no fuel and use no
-- turn.
use Rattle.std.proofs.Common.{◌≡◌, ℕ, Bool, true, false, Option, Some, None, Result, Ok, Err, refl, subst, ◌∙◌, if◌then◌else◌}
use Rattle.psm_value.specs.declared.datum.Datum.{Datum}
use Rattle.psm_exprcode.specs.declared.operand.Operand.{Operand}
use Rattle.psm_exprcode.specs.declared.operand.Operand.TheVariants.{Value, Truth}
use Rattle.psm_sqlstate.specs.declared.state.SqlState.{SqlState}
use Rattle.psm_cond.specs.Condition.{Entries}
use Rattle.psm_table.specs.Cursors.{Cursor}
use Rattle.psm_table.specs.Table.{Contents}
use Rattle.psm_meaning.specs.State.{State, cleared, with_cursor, with_rows, with_variable}
use Rattle.psm_meaning.specs.Acts.{Stop, NoTurns, OutOfFuel, Stuck, Given, Got, Raises, Ends, Meaning, Act, got, raises, ends, go_on, ◌>>=◌, read, change, present, tried, as_value, as_truth, variable}

-- ends that aren't out of fuel
abbrev pub IsHigh : Stop → Type 0
IsHigh NoTurns = Unit {0}
IsHigh OutOfFuel = ⊥
IsHigh Stuck = Unit {0}

abbrev pub High : {A : Type 0} → Given A → Type 0
High (Got a) = Unit {0}
High (Raises c) = Unit {0}
High (Ends stop) = IsHigh stop

pub record Pure {A : Type 0} (act : Act A) : Type 0 where
  pub same : (m n : Meaning) (st : State) → act m st ≡ act n st
  pub high : (m : Meaning) (st : State) → High (act m st).given
  pub turns : (m : Meaning) (st : State) → (act m st).state.turns ≡ st.turns

same_going : {A B : Type 0} (m n : Meaning) (g : Given A) (go : A → Act B) (st : State) → ((a : A) → Pure (go a)) → go_on g go m st ≡ go_on g go n st
same_going m n (Got a) go st h = (h a).same m n st
same_going m n (Raises c) go st h = refl
same_going m n (Ends stop) go st h = refl

high_going : {A B : Type 0} (m : Meaning) (g : Given A) (go : A → Act B) (st : State) → High g → ((a : A) → Pure (go a)) → High (go_on g go m st).given
high_going m (Got a) go st p h = (h a).high m st
high_going m (Raises c) go st p h = tt
high_going m (Ends stop) go st p h = p

turns_going : {A B : Type 0} (m : Meaning) (g : Given A) (go : A → Act B) (st : State) → ((a : A) → Pure (go a)) → (go_on g go m st).state.turns ≡ st.turns
turns_going m (Got a) go st h = (h a).turns m st
turns_going m (Raises c) go st h = refl
turns_going m (Ends stop) go st h = refl

pub pure-bind : {A B : Type 0} {act : Act A} {go : A → Act B} → Pure act → ((a : A) → Pure (go a)) → Pure (◌>>=◌ act go)
pure-bind {act = act} {go = go} p h = record {
  same = λ m n st. subst (λ x. go_on (act m st).given go m (act m st).state ≡ go_on x.given go n x.state) (p.same m n st) (same_going m n (act m st).given go (act m st).state h);
  high = λ m st. high_going m (act m st).given go (act m st).state (p.high m st) h;
  turns = λ m st. turns_going m (act m st).given go (act m st).state h ∙ p.turns m st;
}

pub pure-got : {A : Type 0} (a : A) → Pure (got a)
pure-got a = record { same = λ m n st. refl; high = λ m st. tt; turns = λ m st. refl }

pub pure-raises : {A : Type 0} (c : Entries) → Pure (raises {A = A} c)
pure-raises c = record { same = λ m n st. refl; high = λ m st. tt; turns = λ m st. refl }

pub pure-stuck : {A : Type 0} → Pure (ends {A = A} Stuck)
pure-stuck = record { same = λ m n st. refl; high = λ m st. tt; turns = λ m st. refl }

pub pure-read : {A : Type 0} (f : State → A) → Pure (read f)
pure-read f = record { same = λ m n st. refl; high = λ m st. tt; turns = λ m st. refl }

pub pure-change : (f : State → State) → ((st : State) → (f st).turns ≡ st.turns) → Pure (change f)
pure-change f h = record { same = λ m n st. refl; high = λ m st. tt; turns = λ m st. h st }

pub pure-cleared : Pure (change cleared)
pure-cleared = pure-change cleared (λ st. refl)

pub pure-with_variable : (slot : ℕ) (d : Datum) → Pure (change (with_variable slot d))
pure-with_variable slot d = pure-change (with_variable slot d) (λ st. refl)

pub pure-with_cursor : (number : ℕ) (c : Cursor) → Pure (change (with_cursor number c))
pure-with_cursor number c = pure-change (with_cursor number c) (λ st. refl)

pub pure-with_rows : (table : ℕ) (c : Contents) (count : ℕ) → Pure (change (with_rows table c count))
pure-with_rows table c count = pure-change (with_rows table c count) (λ st. refl)

pub pure-present : {A : Type 0} (a : Option A) → Pure (present a)
pure-present None = pure-stuck
pure-present (Some a) = pure-got a

pub pure-tried : {A : Type 0} (r : Result A SqlState) → Pure (tried r)
pure-tried (Ok a) = pure-got a
pure-tried (Err s) = pure-raises _

-- one of two
pub pure-if : {A : Type 0} (b : Bool) {p q : Act A} → Pure p → Pure q → Pure (if b then p else q)
pure-if true h k = h
pure-if false h k = k

pub pure-as_value : (x : Operand) → Pure (as_value x)
pure-as_value (Value d) = pure-got d
pure-as_value (Truth t) = pure-stuck

pub pure-as_truth : (x : Operand) → Pure (as_truth x)
pure-as_truth (Value d) = pure-stuck
pure-as_truth (Truth t) = pure-got t

pub ruleset pure = (pure-bind, pure-got, pure-raises, pure-stuck, pure-read, pure-cleared, pure-with_variable, pure-with_cursor, pure-with_rows, pure-present, pure-tried, pure-if, pure-as_value, pure-as_truth)

pub pure-variable : (slot : ℕ) → Pure (variable slot)
pure-variable slot = search pure
