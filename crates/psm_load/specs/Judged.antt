-- What is answered of what a text stands for.
use Rattle.std.specs.Prelude.{◌≡◌, ◌<◌, ℕ, List, length, Option, Some, None, Result, Ok, Err}
use Rattle.psm_code.specs.declared.code.RawCode.{RawCode}
use Rattle.psm_code.specs.declared.rule.CodeRule.{CodeRule}
use Rattle.psm_code.specs.RoutineRules.{code_faults, first_fault}
use Rattle.psm_load.specs.Loading.{fault_with}
use Rattle.psm_load.specs.Stated.{stated}
use Rattle.psm_load.specs.declared.fault.LoadFault.{LoadFault}
use Rattle.psm_load.specs.declared.fault.LoadFault.TheVariants.{Refused, Memory}
use Rattle.psm_load.specs.declared.fault.ObjectFault.TheVariants.{NotObject, IllFormed}
use Rattle.psm_load.specs.declared.stop.Stop.{Stop}
use Rattle.psm_load.specs.declared.stop.Stop.TheVariants as stop

-- what a text stands for, as code and a line apart
abbrev pub States : List ℕ → Result (RawCode × Option (ℕ × CodeRule)) Stop → Type 0
States text (Ok x) = stated text ≡ Ok (record { code = x.0; odd = x.1 })
States text (Err (stop.Misfit n)) = stated text ≡ Err n
States text (Err stop.Memory) = Unit {0}

-- where each line stands for something that code holds, the numbers of the lines that the rules count have 32 bits
abbrev pub IsNumbered : RawCode → Option (ℕ × CodeRule) → Type 0
IsNumbered code odd = odd ≡ None → length (code_faults code) < 4294967295

-- a line that breaks a rule is refused
abbrev pub Refuses : Option (ℕ × CodeRule) → LoadFault → Type 0
Refuses fault (Refused line NotObject) = ⊥
Refuses fault (Refused line (IllFormed rule)) = fault ≡ Some (line, rule)
Refuses fault Memory = ⊥

-- the code itself where no line breaks a rule, and else the first that does
abbrev pub Judges : RawCode → Option (ℕ × CodeRule) → Result RawCode LoadFault → Type 0
Judges code odd (Ok c) = (c ≡ code) × (odd ≡ None) × (first_fault code ≡ None)
Judges code odd (Err (Refused line fault)) = Refuses (fault_with odd (first_fault code)) (Refused line fault)
Judges code odd (Err Memory) = Unit {0}
