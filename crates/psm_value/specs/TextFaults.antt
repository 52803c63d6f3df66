-- The conditions that operations on texts raise (ISO/IEC 9075:1992, 22.1).
use Rattle.std.specs.Prelude.{ℕ, List, codes, Result, Ok, Err}
use Rattle.psm_text.specs.declared.fault.TextFault.{TextFault}
use Rattle.psm_text.specs.declared.fault.TextFault.TheVariants as texts
use Rattle.psm_sqlstate.specs.declared.state.SqlState.{SqlState}
use Rattle.psm_value.specs.declared.datum.Datum.{Datum}
use Rattle.psm_value.specs.declared.datum.Datum.TheVariants.{Text}
use Rattle.psm_value.specs.declared.fault.ValueFault.{ValueFault}
use Rattle.psm_value.specs.declared.fault.ValueFault.TheVariants.{Condition, Memory}

-- the SQLSTATE of the condition; out of memory is none, and is expected nowhere
abbrev pub state_of : TextFault → SqlState
state_of texts.TooLong = codes "22001"
state_of texts.Substring = codes "22011"
state_of texts.EscapeChar = codes "22019"
state_of texts.EscapePair = codes "22025"
state_of texts.Lost = codes "22001"
state_of texts.Memory = codes "22001"

-- what the fault of a text is as one of a value
abbrev pub fault_of : TextFault → ValueFault
fault_of texts.TooLong = Condition (state_of texts.TooLong)
fault_of texts.Substring = Condition (state_of texts.Substring)
fault_of texts.EscapeChar = Condition (state_of texts.EscapeChar)
fault_of texts.EscapePair = Condition (state_of texts.EscapePair)
fault_of texts.Lost = Condition (state_of texts.Lost)
fault_of texts.Memory = Memory

-- a text as a value, or the SQLSTATE of the condition that there is none
abbrev pub as_text : Result (List ℕ) TextFault → Result Datum SqlState
as_text (Ok t) = Ok (Text t)
as_text (Err fault) = Err (state_of fault)
