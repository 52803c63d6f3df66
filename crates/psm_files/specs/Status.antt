-- The numbers of the statuses.
use Rattle.std.specs.Prelude.{ℕ}
use Rattle.psm_files.specs.declared.status.Status.{Status}
use Rattle.psm_files.specs.declared.status.Status.TheVariants.{Done, Usage, ReadFault, WriteFault, ModuleRefused, ScriptRefused, TurnsUsed, Memory, ObjectRefused, TooLong}

abbrev pub number_of : Status → ℕ
number_of Done = 0
number_of Usage = 1
number_of ReadFault = 2
number_of WriteFault = 3
number_of ModuleRefused = 4
number_of ScriptRefused = 5
number_of TurnsUsed = 6
number_of Memory = 7
number_of ObjectRefused = 8
number_of TooLong = 9
