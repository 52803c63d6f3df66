-- What the parts of an instruction end in.
use Rattle.std.specs.Prelude.{◌≡◌, List, Result, Ok, Err}
use Rattle.psm_sqlstate.specs.declared.state.SqlState.{SqlState}
use Rattle.psm_value.specs.declared.fault.ValueFault.{ValueFault}
use Rattle.psm_value.specs.declared.fault.ValueFault.TheVariants as value
use Rattle.psm_table.specs.Table.{Contents}
use Rattle.psm_store.specs.declared.store.Mark.{Mark}
use Rattle.psm_code.specs.State as code
use Rattle.psm_code.specs.Steps.{Act, Came, Got, Raises, Ends, of_state, tried}
use Rattle.psm_cond.specs.Condition.{Entries}
use Rattle.psm_unwind.specs.declared.run.Run.{Run}
use Rattle.psm_unwind.specs.View.{at_end, machine_of}
use Rattle.psm_machine.specs.declared.stop.Stop.{Stop}
use Rattle.psm_machine.specs.declared.stop.Stop.TheVariants as stop

-- the run is over, with what the end leaves of this machine
abbrev pub EndsWith : {A : Type 0} → code.End → Came A → code.Machine → Type 0
EndsWith e came now = (came.given ≡ Ends e) × (at_end came.machine ≡ at_end now)

-- what is expected comes, with the machine as it is now; memory may always run out
abbrev pub Evaluates : {A : Type 0} → Came A → Result A Stop → code.Machine → Type 0
Evaluates came (Ok a) now = came ≡ record { given = Got a; machine = now }
Evaluates came (Err (stop.Raises c)) now = came ≡ record { given = Raises c; machine = now }
Evaluates came (Err stop.NoTurns) now = EndsWith code.NoTurns came now
Evaluates came (Err stop.Stuck) now = EndsWith code.Stuck came now
Evaluates came (Err stop.Memory) now = Unit {0}

-- the same of a run, whatever its tables are
abbrev pub Does : {A : Type 0} → Act A → Run → Result A Stop → Run → Type 0
Does act r result new = (tables : List Contents) (at : Mark → List Contents) → Evaluates (act (machine_of tables at r)) result (machine_of tables at new)

-- that condition is to be raised; memory may always run out
abbrev pub StopsWith : Entries → Stop → Type 0
StopsWith expected (stop.Raises c) = c ≡ expected
StopsWith expected stop.NoTurns = ⊥
StopsWith expected stop.Stuck = ⊥
StopsWith expected stop.Memory = Unit {0}

-- the condition of an SQLSTATE alone
abbrev pub StopsAt : SqlState → Stop → Type 0
StopsAt s = StopsWith (of_state s)

-- the condition of the SQLSTATE that an operation on values raises
abbrev pub Fails : ValueFault → Stop → Type 0
Fails (value.Condition state) s = StopsAt state s
Fails value.Memory s = s ≡ stop.Memory

-- an operation on values ends in what is expected
abbrev pub Tries : {A : Type 0} → Result A SqlState → Result A Stop → Type 0
Tries expected result = (m : code.Machine) → Evaluates (tried expected m) result m

-- an act that changes nothing ends in what is expected
abbrev pub Finds : {A : Type 0} → Act A → Result A Stop → Type 0
Finds act result = (m : code.Machine) → Evaluates (act m) result m
