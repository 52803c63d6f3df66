-- The conditions that are raised where an evaluation fails.
use Rattle.std.specs.Prelude.{◌≡◌, Result, Ok, Err}
use Rattle.psm_sqlstate.specs.declared.state.SqlState.{SqlState}
use Rattle.psm_cond.specs.Condition.{Entries, alone}
use Rattle.psm_cond.specs.Entry.{entry_of}
use Rattle.psm_cond.specs.declared.fault.DataFault.{DataFault}
use Rattle.psm_cond.specs.declared.fault.DataFault.TheVariants.{Raised, Memory}
use Rattle.psm_value.specs.declared.fault.ValueFault.{ValueFault}
use Rattle.psm_value.specs.declared.fault.ValueFault.TheVariants as value_fault

-- the condition is that of the SQLSTATE which is raised, alone
abbrev pub IsRaised : {A : Type 0} → Result A SqlState → Entries → Type 0
IsRaised (Ok a) condition = ⊥
IsRaised (Err state) condition = condition ≡ alone (entry_of state)

-- the answer, or the condition, is the one that is expected, unless memory runs out
abbrev pub Answers : {A : Type 0} → Result A SqlState → Result A DataFault → Type 0
Answers expected (Ok a) = expected ≡ Ok a
Answers expected (Err (Raised condition)) = IsRaised expected condition
Answers expected (Err Memory) = Unit {0}

-- the fault of a statement is that of its evaluation, unless memory runs out
abbrev pub Reports : ValueFault → DataFault → Type 0
Reports (value_fault.Condition state) (Raised condition) = condition ≡ alone (entry_of state)
Reports (value_fault.Condition state) Memory = Unit {0}
Reports value_fault.Memory (Raised condition) = ⊥
Reports value_fault.Memory Memory = Unit {0}
