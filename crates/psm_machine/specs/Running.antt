-- How a run begins and how it ends.
use Rattle.std.specs.Prelude.{◌≡◌, ℕ, Bool, true, false, List, [], length, Option, Some, None, Result, Ok, Err}
use Rattle.std.specs.declared.alloc.AllocError.{AllocError}
use Rattle.psm_value.specs.declared.datum.Datum.{Datum}
use Rattle.psm_table.specs.Table.{Contents}
use Rattle.psm_store.specs.declared.store.Mark.{Mark}
use Rattle.psm_code.specs.declared.code.RawCode.{RawCode}
use Rattle.psm_code.specs.declared.code.RawRoutine.{RawRoutine}
use Rattle.psm_code.specs.Calling.{activation, before_start, entered}
use Rattle.psm_code.specs.Parts.{routine_at, taking}
use Rattle.psm_code.specs.Run.{Ran, step, steps}
use Rattle.psm_code.specs.MachineInvariant.{AreLawful, MachineInvariant}
use Rattle.psm_code.specs.State as state
use Rattle.psm_code.specs.Steps.{Act, got, present, ◌>>=◌}
use Rattle.psm_unwind.specs.declared.ending.Ending.{Ending}
use Rattle.psm_unwind.specs.declared.ending.Ending.TheVariants as ending
use Rattle.psm_unwind.specs.declared.ending.Outcome.{Outcome}
use Rattle.psm_unwind.specs.declared.ending.Outcome.TheVariants as outcome
use Rattle.psm_unwind.specs.declared.run.Run.{Run}
use Rattle.psm_unwind.specs.Marks.{Encloses, Stays, open_marks}
use Rattle.psm_unwind.specs.View.{LeadsTo, end_of, machine_of}
use Rattle.psm_machine.specs.declared.running.Beginning.{Beginning}
use Rattle.psm_machine.specs.declared.running.Beginning.TheVariants.{Runs, Over}
use Rattle.psm_machine.specs.declared.running.Finished.{Finished}

-- ---- the beginning

-- the first activation of a run, before its turn is used
abbrev pub first_activation : RawCode → ℕ → List Datum → Act state.Activation
first_activation code n args = do
  r ← present (routine_at code n)
  parameters ← entered r.parameters args
  got (activation n r parameters)

-- whatever the tables are, a run begins as expected; or it is over, before anything has changed
abbrev pub Begins : (List Contents → state.Stepped) → ℕ → Beginning → Type 0
Begins expected turns (Runs r) = (tables : List Contents) (at : Mark → List Contents) → expected tables ≡ state.More (machine_of tables at r)
Begins expected turns (Over e) = (tables : List Contents) → expected tables ≡ state.Over (end_of e) (before_start turns tables)

-- what is always true of a machine is true where a run begins over the tables of the code
abbrev pub BeginsWellFormed : RawCode → Beginning → Type 0
BeginsWellFormed code (Runs r) = (tables : List Contents) (at : Mark → List Contents) → AreLawful code tables → MachineInvariant code (machine_of tables at r)
BeginsWellFormed code (Over e) = Unit {0}

-- a run that begins has no mark of its own, in a store in which n are open
abbrev pub HasNoMarks : ℕ → Beginning → Type 0
HasNoMarks marks (Runs r) = (open_marks r ≡ []) × (r.base ≡ marks) × (r.marks ≡ marks)
HasNoMarks marks (Over e) = Unit {0}

-- the routine is there, and takes as many arguments
pub record Takes (code : RawCode) (n : ℕ) (args : List Datum) : Type 0 where
  pub routine : RawRoutine
  pub there : routine_at code n ≡ Some routine
  pub many : length args ≡ length (taking routine.parameters)

-- ---- the end

-- a run reaches its end from there on, with these tables and turns left
pub record Finishes (code : RawCode) (from : state.Stepped) (f : Finished) (tables : List Contents) : Type 0 where
  pub count : ℕ
  pub last : state.Machine
  pub leads : steps code count from ≡ state.Over (end_of f.ending) last
  pub left : f.turns ≡ last.turns
  pub tables_left : last.tables ≡ tables

-- how a run has ended that had n turns before its last row, if it has
abbrev pub ended_by : ℕ → Outcome → Option Finished
ended_by turns outcome.More = None
ended_by turns (outcome.Over e) = Some (record { ending = e; turns = turns })

-- a row leads on, or to an end, with the turns that there were before it
abbrev pub AfterStep : state.Stepped → Option Finished → state.Machine → state.Machine → Type 0
AfterStep t None last now = LeadsTo t outcome.More now
AfterStep t (Some f) last now = LeadsTo t (outcome.Over f.ending) now × (f.turns ≡ last.turns)

-- a run goes on by some rows, and then by one more
pub record Advances (code : RawCode) (m : state.Machine) (f : Option Finished) (now : state.Machine) : Type 0 where
  pub count : ℕ
  pub last : state.Machine
  pub leads : steps code count (state.More m) ≡ state.More last
  pub next : AfterStep (step code last) f last now

-- the tables after a run: those that it found, where it ended because turns ran out
abbrev pub following : state.End → List Contents → List Contents → List Contents
following (state.Ended ds) found last = last
following (state.Raised c) found last = last
following state.NoTurns found last = found
following state.Stuck found last = found

-- a run of a routine reaches that end, with n turns left, and leaves the tables that are expected
pub record RunsTo (code : RawCode) (n : ℕ) (args : List Datum) (found : List Contents) (turns : ℕ) (f : Finished) (now : List Contents) : Type 0 where
  pub last : state.Machine
  pub ran : Ran code n args found turns (end_of f.ending) last
  pub left : f.turns ≡ last.turns
  pub tables : now ≡ following (end_of f.ending) found last.tables

-- whether what a run did to the tables stays
abbrev pub stays_after : Ending → Bool
stays_after (ending.Ended ds) = true
stays_after (ending.Raised c) = true
stays_after ending.NoTurns = false
stays_after ending.Stuck = false

abbrev pub leaves_tables : Result Finished AllocError → Bool
leaves_tables (Ok f) = stays_after f.ending
leaves_tables (Err e) = false

-- marks outside all that a run has open stay
abbrev pub StayAround : (Mark → Type 0) → (Mark → List Contents) → Run → (Mark → Type 0) → (Mark → List Contents) → Type 0
StayAround holds at r holds_new at_new = (m : Mark) → holds m → Encloses (open_marks r) m → Stays at holds_new at_new m
