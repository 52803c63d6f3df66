-- How an evaluation and how a statement ends, and how one goes on after another.
use Rattle.std.specs.Prelude.{ℕ, zero, suc, List, [], ◌∷◌, slice_get, Option, Some, None, Result, Ok, Err}
use Rattle.psm_sqlstate.specs.declared.state.SqlState.{SqlState}
use Rattle.psm_value.specs.declared.datum.Datum.{Datum}
use Rattle.psm_value.specs.declared.truth.Truth as truth
use Rattle.psm_cond.specs.Condition.{Entries, alone}
use Rattle.psm_cond.specs.Entry.{entry_of}
use Rattle.psm_exprcode.specs.declared.operand.Operand.{Operand}
use Rattle.psm_exprcode.specs.declared.operand.Operand.TheVariants.{Value, Truth}
use Rattle.psm_resolved.specs.declared.expr.ResolvedExpr.{ResolvedExpr}
use Rattle.psm_resolved.specs.declared.statement.ResolvedFor.{ResolvedFor}
use Rattle.psm_resolved.specs.declared.statement.ResolvedHandler.{ResolvedHandler}
use Rattle.psm_resolved.specs.declared.statement.ResolvedStatement.{ResolvedStatement}
use Rattle.psm_meaning.specs.State.{State, EvalContext}

-- ---- ends

-- why a run ends where it stands: a turn is due and none is left; or, which an accepted file never ends in, something that a
-- tree names isn't there. OutOfFuel stands for nothing in the standard: the meaning was taken with too little fuel
pub data Stop : Type 0 where
  NoTurns OutOfFuel Stuck : Stop

-- what an evaluation gives: something, or a condition that is to be raised at the statement
pub data Given (A : Type 0) : Type 0 where
  Got : A → Given A
  Raises : Entries → Given A
  Ends : Stop → Given A

pub record Evaluated (A : Type 0) : Type 0 where
  pub given : Given A
  pub state : State

-- How a statement ends. Raised is an exception for which no handler was found. Away is a condition for which a handler of an outer
-- block was chosen, EXIT or UNDO: the blocks inside that one, which is known by its level, are left first
pub data Outcome : Type 0 where
  Normal : Outcome
  Leave Iterate : ℕ → Outcome
  Return : Datum → Outcome
  Raised : Entries → Outcome
  Away : ℕ → ResolvedHandler → Entries → Outcome
  Stopped : Stop → Outcome

pub record Done : Type 0 where
  pub outcome : Outcome
  pub state : State

-- what is done at a place: a statement, or the rounds of a FOR statement whose cursor is open
pub data Task : Type 0 where
  Do : ResolvedStatement → Task
  Round : ℕ → ResolvedFor → List ResolvedStatement → Task

-- what parts mean: expressions outside of rows, and statements
pub record Meaning : Type 0 where
  pub value : ResolvedExpr → State → Evaluated Operand
  pub done : Task → EvalContext → State → Done

-- ---- evaluations, where it is known what parts mean

abbrev pub Act : Type 0 → Type 0
Act A = Meaning → State → Evaluated A

abbrev pub got : {A : Type 0} → A → Act A
got a m st = record { given = Got a; state = st }

abbrev pub raises : {A : Type 0} → Entries → Act A
raises c m st = record { given = Raises c; state = st }

abbrev pub ends : {A : Type 0} → Stop → Act A
ends stop m st = record { given = Ends stop; state = st }

abbrev pub go_on : {A B : Type 0} → Given A → (A → Act B) → Act B
go_on (Got a) go m st = go a m st
go_on (Raises c) go m st = raises c m st
go_on (Ends stop) go m st = ends stop m st

-- one after the other, unless there is a condition or the run ends
abbrev pub ◌>>=◌ : {A B : Type 0} → Act A → (A → Act B) → Act B
◌>>=◌ act go m st = let r = act m st in go_on r.given go m r.state

abbrev pub ◌>>◌ : {A B : Type 0} → Act A → Act B → Act B
◌>>◌ act next = ◌>>=◌ act (λ _. next)

-- something of the state
abbrev pub read : {A : Type 0} → (State → A) → Act A
read f m st = record { given = Got (f st); state = st }

-- a change of the state
abbrev pub change : (State → State) → Act (Unit {0})
change f m st = record { given = Got tt; state = f st }

-- what is there
abbrev pub present : {A : Type 0} → Option A → Act A
present None = ends Stuck
present (Some a) = got a

-- the condition of an SQLSTATE alone
abbrev pub of_state : SqlState → Entries
of_state s = alone (entry_of s)

abbrev pub tried : {A : Type 0} → Result A SqlState → Act A
tried (Ok a) = got a
tried (Err s) = raises (of_state s)

-- a turn is used
abbrev pub spent : ℕ → Act (Unit {0})
spent zero = ends NoTurns
spent (suc left) = change (λ st. record st { turns = left })

abbrev pub turn : Act (Unit {0})
turn m st = spent st.turns m st

-- ---- expressions

abbrev pub operand : ResolvedExpr → Act Operand
operand e m st = m.value e st

abbrev pub as_value : Operand → Act Datum
as_value (Value d) = got d
as_value (Truth t) = ends Stuck

abbrev pub as_truth : Operand → Act truth.Truth
as_truth (Value d) = ends Stuck
as_truth (Truth t) = got t

abbrev pub value_of : ResolvedExpr → Act Datum
value_of e = do
  x ← operand e
  as_value x

abbrev pub truth_of : ResolvedExpr → Act truth.Truth
truth_of e = do
  x ← operand e
  as_truth x

-- the values of some expressions, from the left
abbrev pub values : List ResolvedExpr → Act (List Datum)
values [] = got []
values (e ∷ es) = do
  d ← value_of e
  ds ← values es
  got (d ∷ ds)

-- the value of a variable
abbrev pub variable : ℕ → Act Datum
variable slot = do
  vars ← read (λ st. st.variables)
  present (slice_get vars slot)

-- ---- statements, where it is known what parts mean

abbrev pub Deed : Type 0
Deed = Meaning → State → Done

abbrev pub ends_as : Outcome → Deed
ends_as o m st = record { outcome = o; state = st }

-- what follows an outcome
abbrev pub following : Deed → (Outcome → Deed) → Deed
following deed go m st = let r = deed m st in go r.outcome m r.state

-- after a change of the state
abbrev pub changing : (State → State) → Deed → Deed
changing f deed m st = deed m (f st)

-- a statement at a place
abbrev pub part : EvalContext → ResolvedStatement → Deed
part eval_context s m st = m.done (Do s) eval_context st

abbrev pub if_normal : Outcome → Deed → Deed
if_normal Normal next = next
if_normal o next = ends_as o

-- a list of statements: each after one that ended normally
abbrev pub all : EvalContext → List ResolvedStatement → Deed
all eval_context [] = ends_as Normal
all eval_context (s ∷ ss) = following (part eval_context s) (λ o. if_normal o (all eval_context ss))

-- a turn is used, and then it is done
abbrev pub spending : ℕ → Deed → Deed
spending zero deed m st = record { outcome = Stopped NoTurns; state = st }
spending (suc left) deed m st = deed m (record st { turns = left })

abbrev pub at_turn : Deed → Deed
at_turn deed m st = spending st.turns deed m st
