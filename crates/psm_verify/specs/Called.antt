-- The letters of what routines are called with, and of what they give back.
use Rattle.std.specs.Prelude.{List, reverse}
use Rattle.psm_code.specs.declared.code.Parameter.{Parameter}
use Rattle.psm_code.specs.declared.code.RawRoutine.{RawRoutine}
use Rattle.psm_code.specs.Instructions.{parameter_letters}
use Rattle.psm_code.specs.Parts.{giving, taking}
use Rattle.psm_verify.specs.declared.calls.Call.{Call}

abbrev pub call_with : List Parameter → Call
call_with ps = record { taken = reverse (parameter_letters (taking ps)); all = reverse (parameter_letters ps); given = parameter_letters (giving ps) }

abbrev pub call_of : RawRoutine → Call
call_of r = call_with r.parameters
