-- The lines of files that are refused for a fault.
use Rattle.std.specs.Prelude.{ℕ, List, codes}
use Rattle.psm_faults.specs.FaultTexts.{text_of}
use Rattle.psm_faults.specs.declared.fault.Fault.{Fault}
use Rattle.psm_files.specs.Message.{fault_line, object_fault_line}
use Rattle.psm_load.specs.FaultTexts as object
use Rattle.psm_load.specs.declared.fault.ObjectFault.{ObjectFault}
use Rattle.psm_commands.specs.declared.source.Which.{Which}
use Rattle.psm_commands.specs.declared.source.Which.TheVariants.{Module, Script}

-- which file
abbrev pub noun_of : Which → List ℕ
noun_of Module = codes "module"
noun_of Script = codes "script"

-- a file that is refused for a fault, with its line and column
abbrev pub refusal_line : Which → ℕ → ℕ → Fault → List ℕ
refusal_line w line column fault = fault_line (noun_of w) line column (text_of fault)

-- an object that is refused for a fault, with its line
abbrev pub object_refusal_line : ℕ → ObjectFault → List ℕ
object_refusal_line line fault = object_fault_line line (object.text_of fault)
