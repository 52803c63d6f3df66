-- What one command of a script ends in.
use Rattle.std.specs.Prelude.{◌≡◌, ℕ, ◌+◌, ◌⊎◌, Bool, true, false, List, [], ◌∷◌, Option, Some, None, Result, Ok, Err}
use Rattle.std.specs.Global.{Vec}
use Rattle.std.specs.declared.alloc.AllocError.{AllocError}
use Rattle.psm_table.specs.Table.{Contents}
use Rattle.psm_store.specs.declared.store.Mark.{Mark}
use Rattle.psm_store.specs.Marks.{IsOutside}
use Rattle.psm_code.specs.declared.code.RawCode.{RawCode}
use Rattle.psm_code.specs.State as state
use Rattle.psm_code.specs.State.{End, Ended, Raised, Stuck}
use Rattle.psm_meaning.specs.Acts.{NoTurns}
use Rattle.psm_meaning.specs.Session.{Standing, Stopped, Went}
use Rattle.psm_session.specs.CommandSteps.{CommandExecutes}
use Rattle.psm_session.specs.Put.{Sunk, PutAll, PutSome}
use Rattle.psm_session.specs.declared.command.ScriptCommand.{ScriptCommand}
use Rattle.psm_session.specs.declared.command.ScriptCommand.TheVariants as commands
use Rattle.psm_session.specs.declared.step.CommandEnd.{CommandEnd}
use Rattle.psm_session.specs.declared.step.Step.{Step}
use Rattle.psm_session.specs.declared.step.Step.TheVariants as steps

-- the tables, the turns, and the tables to which ROLLBACK goes
abbrev pub standing : List Contents → ℕ → List Contents → Standing
standing tables turns committed = record { tables = tables; turns = turns; committed = committed }

-- ---- pieces

-- a command ends in that piece, and leaves that; where no other is due after it, a turn was due and none was left
abbrev pub Makes : RawCode → ℕ → Standing → ScriptCommand → Bool → List ℕ → Standing → Type 0
Makes code k s c true piece t = CommandExecutes code k s c (Went piece t)
Makes code k s c false piece t = CommandExecutes code k s c (Stopped NoTurns (piece ∷ [])) × (t.tables ≡ s.tables) × (t.turns ≡ 0)

-- whether another command is due after a run that ended so, and how many turns it leaves
abbrev pub goes_after : End → Bool
goes_after (Ended ds) = true
goes_after (Raised c) = true
goes_after state.NoTurns = false
goes_after Stuck = false

abbrev pub turns_left : Bool → ℕ → ℕ
turns_left true left = left
turns_left false left = 0

-- a piece is put; whether another command is due after it decides between the two steps where it is put whole
abbrev pub Puts : Bool → List ℕ → Sunk → Step → Type 0
Puts goes piece sunk steps.Next = (goes ≡ true) × PutAll sunk (piece ∷ [])
Puts goes piece sunk steps.TurnsUsed = (goes ≡ false) × PutAll sunk (piece ∷ [])
Puts goes piece sunk steps.WriteFault = PutSome sunk (piece ∷ [])
Puts goes piece sunk steps.Memory = PutAll sunk []

-- the tables after a step: those that a command found, where memory ran out
abbrev pub tables_after : Step → List Contents → List Contents → List Contents
tables_after steps.Next made found = made
tables_after steps.TurnsUsed made found = made
tables_after steps.WriteFault made found = made
tables_after steps.Memory made found = found

-- ---- steps

-- nothing is put, and the tables are as before
pub record IsIdle (s : Standing) (sunk : Sunk) (t : Standing) : Type 0 where
  pub put : PutAll sunk []
  pub same : t.tables ≡ s.tables

-- a command ends in a piece, which is put
pub record IsPut (code : RawCode) (k : ℕ) (s : Standing) (c : ScriptCommand) (sunk : Sunk) (goes : Bool) (t : Standing) : Type 0 where
  pub piece : List ℕ
  pub makes : Makes code k s c goes piece t
  pub put : PutAll sunk (piece ∷ [])

-- the piece isn't put whole, and the tables are those after the command
pub record IsTorn (code : RawCode) (k : ℕ) (s : Standing) (c : ScriptCommand) (sunk : Sunk) (t : Standing) : Type 0 where
  pub goes : Bool
  pub piece : List ℕ
  pub expected : Standing
  pub makes : Makes code k s c goes piece expected
  pub put : PutSome sunk (piece ∷ [])
  pub same : t.tables ≡ expected.tables

-- what command k ends in, and what is left then
abbrev pub EndsIn : RawCode → ℕ → Standing → ScriptCommand → Sunk → Standing → Step → Type 0
EndsIn code k s c sunk t steps.Next = IsPut code k s c sunk true t
EndsIn code k s c sunk t steps.TurnsUsed = IsPut code k s c sunk false t
EndsIn code k s c sunk t steps.WriteFault = IsTorn code k s c sunk t
EndsIn code k s c sunk t steps.Memory = IsIdle s sunk t

-- a COMMIT ends in a piece, which is put, and there was no memory for the mark of the next transaction
pub record IsUnmarked (code : RawCode) (k : ℕ) (s : Standing) (c : ScriptCommand) (sunk : Sunk) (t : Standing) : Type 0 where
  pub expected : Standing
  pub is_put : IsPut code k s c sunk true expected
  pub same : t.tables ≡ expected.tables

-- the same, where the transaction may lose its mark because memory ran out
abbrev pub ResultsIn : RawCode → ℕ → Standing → ScriptCommand → Sunk → Standing → Result Step AllocError → Type 0
ResultsIn code k s c sunk t (Ok step) = EndsIn code k s c sunk t step
ResultsIn code k s c sunk t (Err e) = IsUnmarked code k s c sunk t

-- ---- steps of which the transaction isn't settled yet

-- what COMMIT and ROLLBACK make of the tables and of those to which ROLLBACK goes
abbrev pub settled : ScriptCommand → Standing → Standing
settled (commands.Call n values) s = s
settled (commands.Insert table columns rows) s = s
settled (commands.Select query) s = s
settled commands.Commit s = record s { committed = s.tables }
settled commands.Rollback s = record s { tables = s.committed }

-- what command k ends in, once the transaction is settled
abbrev pub Closes : RawCode → ℕ → Standing → ScriptCommand → Sunk → Standing → Step → Type 0
Closes code k s c sunk t steps.Next = IsPut code k s c sunk true (settled c t)
Closes code k s c sunk t steps.TurnsUsed = IsPut code k s c sunk false (settled c t)
Closes code k s c sunk t steps.WriteFault = IsTorn code k s c sunk (settled c t)
Closes code k s c sunk t steps.Memory = IsIdle s sunk t

-- the same while the command has a mark of its own: where memory ran out, the tables are put back to that yet
abbrev pub Does : RawCode → ℕ → Standing → ScriptCommand → Sunk → Standing → Step → Type 0
Does code k s c sunk t steps.Next = IsPut code k s c sunk true (settled c t)
Does code k s c sunk t steps.TurnsUsed = IsPut code k s c sunk false (settled c t)
Does code k s c sunk t steps.WriteFault = IsTorn code k s c sunk (settled c t)
Does code k s c sunk t steps.Memory = PutAll sunk []

-- the transaction of a command after its step, where the next command is due, a piece is put, or nothing was done
abbrev pub Settled : Step → ScriptCommand → Standing → Standing → Type 0
Settled steps.Next c t u = u ≡ settled c t
Settled steps.TurnsUsed c t u = u.tables ≡ (settled c t).tables
Settled steps.WriteFault c t u = u.tables ≡ (settled c t).tables
Settled steps.Memory c t u = u.tables ≡ t.tables

-- the same, or after COMMIT there was no memory for a new mark
abbrev pub Settles : Step → ScriptCommand → Standing → Standing → Result Step AllocError → Type 0
Settles step c t u (Ok s) = (s ≡ step) × Settled step c t u × ((u.committed ≡ t.committed) ⊎ (u.committed ≡ (settled c t).committed))
Settles step c t u (Err e) = (step ≡ steps.Next) × (u.tables ≡ (settled c t).tables)

-- a command with that piece goes on
abbrev pub GoesOn : Result (Vec ℕ) AllocError → Result CommandEnd AllocError → Type 0
GoesOn (Ok piece) (Ok end) = (end.piece ≡ piece) × (end.goes_on ≡ true)
GoesOn (Ok piece) (Err e) = ⊥
GoesOn (Err e) (Ok end) = ⊥
GoesOn (Err e) (Err f) = Unit {0}

-- the step of a command whose piece isn't put
abbrev pub step_after : Bool → Step
step_after true = steps.Next
step_after false = steps.TurnsUsed

-- ---- the mark of the transaction

-- the transaction, which had a mark, has one of the same depth. It is the deepest one, and what was outside the old one is outside it
pub record StaysMarked (holds : Mark → Type 0) (mark : Mark) (holds_new : Mark → Type 0) (count_new : ℕ) (new : Mark) : Type 0 where
  pub held : holds_new new
  pub depth : new.depth ≡ mark.depth
  pub count : count_new ≡ mark.depth + 1
  pub inside : (outer : Mark) → holds outer → IsOutside mark outer → IsOutside new outer

-- the transaction has a mark of that depth, the deepest
pub record HasMark (holds : Mark → Type 0) (count depth : ℕ) (mark : Mark) : Type 0 where
  pub held : holds mark
  pub depth_is : mark.depth ≡ depth
  pub counted : count ≡ depth + 1

-- it stays marked, or it has lost its mark
abbrev pub Marked : {A : Type 0} → (Mark → Type 0) → Mark → (Mark → Type 0) → ℕ → Mark → Result A AllocError → Type 0
Marked holds mark holds_new count_new new (Ok step) = StaysMarked holds mark holds_new count_new new
Marked holds mark holds_new count_new new (Err e) = count_new ≡ mark.depth

-- the same of the mark that is left to a transaction, if it has one
abbrev pub MarkedOr : (Mark → Type 0) → Mark → (Mark → Type 0) → ℕ → Option Mark → Type 0
MarkedOr holds mark holds_new count_new (Some new) = StaysMarked holds mark holds_new count_new new
MarkedOr holds mark holds_new count_new None = count_new ≡ mark.depth

-- n marks without that of the transaction, and what is outside that
abbrev pub marks_without : ℕ → Option Mark → ℕ
marks_without count None = count
marks_without count (Some mark) = mark.depth

abbrev pub IsOutsideOr : Option Mark → Mark → Type 0
IsOutsideOr None outer = Unit {0}
IsOutsideOr (Some mark) outer = IsOutside mark outer
