-- What an instruction ends in over the tables of a store.
use Rattle.std.specs.Prelude.{◌≡◌, ℕ, Bool, true, false, List, codes, Result, Ok, Err}
use Rattle.psm_cond.specs.Condition.{alone}
use Rattle.psm_cond.specs.Entry.{entry_of, name_text}
use Rattle.psm_cond.specs.declared.fault.DataFault.{DataFault}
use Rattle.psm_cond.specs.declared.fault.DataFault.TheVariants as fault
use Rattle.psm_table.specs.Table.{Contents}
use Rattle.psm_store.specs.declared.store.Mark.{Mark}
use Rattle.psm_code.specs.declared.code.CodeCursor.{CodeCursor}
use Rattle.psm_code.specs.Run.{Successor, fall_through, at}
use Rattle.psm_code.specs.Steps.{Act}
use Rattle.psm_unwind.specs.declared.run.Run.{Run}
use Rattle.psm_unwind.specs.View.{machine_of}
use Rattle.psm_machine.specs.declared.stop.Stop.{Stop}
use Rattle.psm_machine.specs.declared.stop.Stop.TheVariants as stop
use Rattle.psm_machine.specs.ActResults.{Evaluates}

-- an act on a run over tables ends in what is expected, with the run and the tables as they are now, whatever the marks stand for
abbrev pub DoesOver : {A : Type 0} → List Contents → Act A → Run → Result A Stop → List Contents → Run → Type 0
DoesOver tables act r result now new = (at : Mark → List Contents) → Evaluates (act (machine_of tables at r)) result (machine_of now at new)

-- what the fault of a statement on tables stops
abbrev pub stop_of : DataFault → Stop
stop_of (fault.Raised c) = stop.Raises c
stop_of fault.Memory = stop.Memory

-- the answer of such a statement, as a part of an instruction
abbrev pub part_of : {A : Type 0} → Result A DataFault → Result A Stop
part_of (Ok a) = Ok a
part_of (Err f) = Err (stop_of f)

-- ---- cursors

-- the state of a declared cursor doesn't allow the statement, of which the condition bears the cursor's name
abbrev pub StopsIn : CodeCursor → Stop → Type 0
StopsIn x (stop.Raises c) = c ≡ alone (record (entry_of (codes "24000")) { cursor = name_text x.name })
StopsIn x stop.NoTurns = ⊥
StopsIn x stop.Stuck = ⊥
StopsIn x stop.Memory = Unit {0}

-- where the run goes on after the next row of FOR: at the line that follows, or at that of the instruction where there is no row
abbrev pub successor_for : ℕ → Bool → Successor
successor_for end true = fall_through
successor_for end false = at end

abbrev pub as_successor : ℕ → Result Bool Stop → Result Successor Stop
as_successor end (Ok b) = Ok (successor_for end b)
as_successor end (Err s) = Err s
