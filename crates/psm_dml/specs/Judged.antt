-- What is known of the CHECKs on the rows of a statement so far.
use Rattle.std.specs.Prelude.{◌≡◌, ℕ, ◌<◌, Bool, ◌&&◌, List, [], Result, Ok, Err, slice_index_or, if◌then◌else◌}
use Rattle.psm_sqlstate.specs.declared.state.SqlState.{SqlState}
use Rattle.std.specs.declared.alloc.AllocError.{AllocError}
use Rattle.psm_value.specs.declared.datum.Datum.{Datum}
use Rattle.psm_value.specs.declared.fault.ValueFault.{ValueFault}
use Rattle.psm_value.specs.declared.fault.ValueFault.TheVariants as value_fault
use Rattle.psm_table.specs.Changing.{is_before}
use Rattle.psm_dml.specs.declared.checking.Passed.{Passed}
use Rattle.psm_dml.specs.declared.checking.Passed.TheVariants.{Held, Condition}
use Rattle.psm_dml.specs.declared.checking.Verdict.{Verdict}
use Rattle.psm_dml.specs.declared.checking.Verdict.TheVariants.{Kept, Raised}

-- what the CHECKs evaluate to on a row
abbrev pub result_of : Passed → Result Bool SqlState
result_of (Held b) = Ok b
result_of (Condition state) = Err state

-- a condition is one of a row, and out of memory isn't
abbrev pub IsRefused : ValueFault → Result Passed AllocError → Type 0
IsRefused (value_fault.Condition state) (Ok passed) = passed ≡ Condition state
IsRefused (value_fault.Condition state) (Err error) = ⊥
IsRefused value_fault.Memory (Ok passed) = ⊥
IsRefused value_fault.Memory (Err error) = Unit {0}

-- the row whose condition counts is one of n
abbrev pub IsWithin : ℕ → Verdict → Type 0
IsWithin n (Kept b) = Unit {0}
IsWithin n (Raised index state) = index < n

-- with the row at an index more: of two rows that raise a condition the first by its key counts
abbrev pub verdict_with : List ℕ → List (List Datum) → Verdict → ℕ → Result Bool SqlState → Verdict
verdict_with key rows (Kept b) at (Ok holds) = Kept (b && holds)
verdict_with key rows (Kept b) at (Err state) = Raised at state
verdict_with key rows (Raised index state) at (Ok holds) = Raised index state
verdict_with key rows (Raised index state) at (Err other) =
    if is_before key (slice_index_or rows index []) (slice_index_or rows at []) then Raised index state else Raised at other
