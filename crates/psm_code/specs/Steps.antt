-- How the parts of an instruction go on one after another.
use Rattle.std.specs.Prelude.{ℕ, zero, suc, List, [], ◌∷◌, slice_get, Option, Some, None, Result, Ok, Err}
use Rattle.psm_sqlstate.specs.declared.state.SqlState.{SqlState}
use Rattle.psm_value.specs.declared.datum.Datum.{Datum}
use Rattle.psm_cond.specs.Condition.{Entries, alone}
use Rattle.psm_cond.specs.Entry.{entry_of}
use Rattle.psm_exprcode.specs.declared.operand.Operand.{Operand}
use Rattle.psm_exprcode.specs.declared.operand.Operand.TheVariants.{Value, Truth}
use Rattle.psm_table.specs.Table.{Contents}
use Rattle.psm_code.specs.State.{Machine, End, NoTurns, Stuck, with_running}

-- what a part gives: something, or a condition that is to be raised at the line
pub data Given (A : Type 0) : Type 0 where
  Got : A → Given A
  Raises : Entries → Given A
  Ends : End → Given A

pub record Came (A : Type 0) : Type 0 where
  pub given : Given A
  pub machine : Machine

abbrev pub Act : Type 0 → Type 0
Act A = Machine → Came A

abbrev pub got : {A : Type 0} → A → Act A
got a m = record { given = Got a; machine = m }

abbrev pub raises : {A : Type 0} → Entries → Act A
raises c m = record { given = Raises c; machine = m }

abbrev pub ends : {A : Type 0} → End → Act A
ends e m = record { given = Ends e; machine = m }

abbrev pub go_on : {A B : Type 0} → Given A → (A → Act B) → Act B
go_on (Got a) go m = go a m
go_on (Raises c) go m = raises c m
go_on (Ends e) go m = ends e m

abbrev pub ◌>>=◌ : {A B : Type 0} → Act A → (A → Act B) → Act B
◌>>=◌ act go m = let r = act m in go_on r.given go r.machine

abbrev pub ◌>>◌ : {A B : Type 0} → Act A → Act B → Act B
◌>>◌ act next = ◌>>=◌ act (λ _. next)

-- something of the machine
abbrev pub read : {A : Type 0} → (Machine → A) → Act A
read f m = record { given = Got (f m); machine = m }

abbrev pub change : (Machine → Machine) → Act (Unit {0})
change f m = record { given = Got tt; machine = f m }

-- what is there
abbrev pub present : {A : Type 0} → Option A → Act A
present None = ends Stuck
present (Some a) = got a

-- the condition of an SQLSTATE alone
abbrev pub of_state : SqlState → Entries
of_state s = alone (entry_of s)

abbrev pub tried : {A : Type 0} → Result A SqlState → Act A
tried (Ok a) = got a
tried (Err s) = raises (of_state s)

-- a turn is used
abbrev pub spent : ℕ → Act (Unit {0})
spent zero = ends NoTurns
spent (suc left) = change (λ m. record m { turns = left })

abbrev pub turn : Act (Unit {0})
turn m = spent m.turns m

-- ---- operands

abbrev pub put : Operand → Act (Unit {0})
put x = change (with_running (λ a. record a { operands = x ∷ a.operands }))

abbrev pub put_value : Datum → Act (Unit {0})
put_value d = put (Value d)

-- values, the first of which stands on top then
abbrev pub put_values : List Datum → Act (Unit {0})
put_values [] = got tt
put_values (d ∷ ds) = do
  put_values ds
  put_value d

abbrev pub left_with : List Operand → Act (Unit {0})
left_with os = change (with_running (λ a. record a { operands = os }))

abbrev pub popped : List Operand → Act Datum
popped [] = ends Stuck
popped (Value d ∷ os) = do
  left_with os
  got d
popped (Truth t ∷ os) = ends Stuck

-- the last operand, which is a value
abbrev pub pop : Act Datum
pop = do
  os ← read (λ m. m.running.operands)
  popped os

-- n values in front of others: the last operand becomes the one after all
abbrev pub pops : ℕ → List Datum → Act (List Datum)
pops zero ds = got ds
pops (suc n) ds = do
  d ← pop
  pops n (d ∷ ds)

-- ---- what is there by its number

abbrev pub table_now : ℕ → Act Contents
table_now table = do
  tables ← read (λ m. m.tables)
  present (slice_get tables table)

abbrev pub variable : ℕ → Act Datum
variable slot = do
  vars ← read (λ m. m.running.variables)
  present (slice_get vars slot)
