-- What the verifier answers.
use Rattle.std.specs.Prelude.{◌≡◌, Some, None, Result, Ok, Err}
use Rattle.psm_code.specs.declared.code.RawCode.{RawCode}
use Rattle.psm_code.specs.RoutineRules.{first_fault}
use Rattle.psm_verify.specs.declared.fault.CodeFault.{CodeFault}

-- the code itself where no line breaks a rule, and else the first line that does, with the rule
abbrev pub Verifies : RawCode → Result RawCode CodeFault → Type 0
Verifies code (Ok right) = (right ≡ code) × (first_fault code ≡ None)
Verifies code (Err fault) = first_fault code ≡ Some (fault.line, fault.rule)
