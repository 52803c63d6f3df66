-- How the parts of an instruction keep what is always true of a machine, one after another.
use Rattle.std.proofs.Common.{◌≡◌, ◌<◌, ℕ, true, List, [], ◌∷◌, length, refl, Option, None, Some, Result, Ok, Err}
use Rattle.psm_sqlstate.specs.declared.state.SqlState.{SqlState}
use Rattle.psm_value.specs.declared.datum.Datum.{Datum}
use Rattle.psm_exprcode.specs.declared.op.Letter.{Letter}
use Rattle.psm_exprcode.specs.declared.op.Letter.TheVariants.{N, T, B}
use Rattle.psm_exprcode.specs.declared.operand.Operand.{Operand}
use Rattle.psm_exprcode.specs.declared.operand.Operand.TheVariants.{Value, Truth}
use Rattle.psm_exprcode.specs.Kinds.{has_letter, have, is_value}
use Rattle.psm_num.proofs.Literals.{and_first, and_second}
use Rattle.psm_table.specs.Cursors.{Cursor}
use Rattle.psm_table.specs.Table.{Contents}
use Rattle.psm_code.specs.declared.code.RawCode.{RawCode}
use Rattle.psm_code.specs.declared.code.RawRoutine.{RawRoutine}
use Rattle.psm_code.specs.declared.lines.CodeLine.{CodeLine}
use Rattle.psm_code.specs.Calling.{most_depth}
use Rattle.psm_code.specs.Instructions.{may_raise}
use Rattle.psm_code.specs.Parts.{line_at, routine_at, slots_of}
use Rattle.psm_code.specs.MachineInvariant.{are_stored, is_due, AllWait, AreCursors, AreLawful, Stand}
use Rattle.psm_code.specs.State.{Activation, Frame, Machine}
use Rattle.psm_code.specs.Steps.{Act, Given, Got, Raises, Ends, go_on, pop, popped, present, tried, ◌>>=◌}

-- what holds of an activation at a line, of those that called it and of the tables
pub record Lives (code : RawCode) (r : RawRoutine) (l : CodeLine) (n at : ℕ) (vars : List Datum) (open_ones : List Cursor) (entered : List Frame) (others : List Activation) (now : List Contents) : Type 0 where
  pub routine : routine_at code n ≡ Some r
  pub line : line_at r at ≡ Some l
  pub variables : are_stored (slots_of r) vars ≡ true
  pub cursors : AreCursors code r r.cursors open_ones
  pub frames : Stand code r entered l.context
  pub callers : AllWait code n others
  pub depth : length others < most_depth
  pub tables : AreLawful code now

module _ (code : RawCode) (r : RawRoutine) (l : CodeLine) where
  -- all but the operands
  abbrev pub Body : Machine → Type 0
  Body m = Lives code r l m.running.routine m.running.line m.running.variables m.running.cursors m.running.frames m.callers m.tables

  -- the operands have these letters too
  pub record Has (s : List Letter) (m : Machine) : Type 0 where
    pub body : Body m
    pub operands : have s m.running.operands ≡ true

  -- an act gives what P says, raises a condition where the line may, or ends the run as is due
  abbrev pub Evaluates : {A : Type 0} → (A → Machine → Type 0) → Given A → Machine → Type 0
  Evaluates P (Got a) m = P a m
  Evaluates P (Raises c) m = (may_raise l.instruction ≡ true) × Body m
  Evaluates P (Ends e) m = (is_due e ≡ true) × AreLawful code m.tables

  -- the act on the machine
  pub record Does {A : Type 0} (P : A → Machine → Type 0) (act : Act A) (m : Machine) : Type 0 where
    pub evaluates : Evaluates P (act m).given (act m).machine

  by_given : {A B : Type 0} (P : A → Machine → Type 0) (Q : B → Machine → Type 0) (go : A → Act B) (g : Given A) (m : Machine) → Evaluates P g m → ((a : A) (n : Machine) → P a n → Does Q (go a) n)
      → Evaluates Q (go_on g go m).given (go_on g go m).machine
  by_given P Q go (Got a) m h k = (k a m h).evaluates
  by_given P Q go (Raises c) m h k = h
  by_given P Q go (Ends e) m h k = h

  pub and_then : {A B : Type 0} (P : A → Machine → Type 0) (Q : B → Machine → Type 0) (act : Act A) (go : A → Act B) (m : Machine) → Does P act m → ((a : A) (n : Machine) → P a n → Does Q (go a) n) → Does Q (◌>>=◌ act go) m
  and_then P Q act go m h k = record { evaluates = by_given P Q go (act m).given (act m).machine h.evaluates k }

  -- what is there
  pub present_does : {A : Type 0} (P : A → Machine → Type 0) (o : Option A) (a : A) (m : Machine) → o ≡ Some a → P a m → Does P (present o) m
  present_does P o a m e h = rw e (record { evaluates = h })

  unchanged : {A : Type 0} (P : A → Machine → Type 0) (m : Machine) (g : Given A) (n : Machine) → n ≡ m → Evaluates P g n → Evaluates (λ a k. (k ≡ m) × P a k) g n
  unchanged P m (Got a) n e h = (e, h)
  unchanged P m (Raises c) n e h = h
  unchanged P m (Ends x) n e h = h

  -- an act that leaves the machine as it is
  pub stays : {A : Type 0} (P : A → Machine → Type 0) (act : Act A) (m : Machine) → (act m).machine ≡ m → Does P act m → Does (λ a k. (k ≡ m) × P a k) act m
  stays P act m e h = record { evaluates = unchanged P m (act m).given (act m).machine e h.evaluates }

  -- a value is taken
  popped_does : (k : Letter) (s : List Letter) (m : Machine) (os : List Operand) → is_value k ≡ true → Body m → have (k ∷ s) os ≡ true → Does (λ d n. (has_letter k d ≡ true) × Has s n) (popped os) m
  popped_does k s m [] v h g = absurd (cc)
  popped_does k s m (Value d ∷ os) v h g = record { evaluates = (and_first (has_letter k d) (have s os) g, record { body = h; operands = and_second (has_letter k d) (have s os) g }) }
  popped_does N s m (Truth t ∷ os) v h g = absurd (cc)
  popped_does T s m (Truth t ∷ os) v h g = absurd (cc)
  popped_does B s m (Truth t ∷ os) v h g = absurd (cc)

  pub pop_does : (k : Letter) (s : List Letter) (m : Machine) → is_value k ≡ true → Has (k ∷ s) m → Does (λ d n. (has_letter k d ≡ true) × Has s n) pop m
  pop_does k s m v h = record { evaluates = (popped_does k s m m.running.operands v h.body h.operands).evaluates }

  -- a condition is raised, or there is something of which Q holds
  pub tried_does : {A : Type 0} (Q : A → Type 0) (P : Machine → Type 0) (t : Result A SqlState) (m : Machine) → may_raise l.instruction ≡ true → Body m → P m → ((a : A) → t ≡ Ok a → Q a) → Does (λ a n. Q a × P n) (tried t) m
  tried_does Q P (Ok a) m may b p q = record { evaluates = (q a refl, p) }
  tried_does Q P (Err s) m may b p q = record { evaluates = (may, b) }

pub present_stays : {A : Type 0} (o : Option A) (m : Machine) → (present o m).machine ≡ m
present_stays None m = refl
present_stays (Some a) m = refl
