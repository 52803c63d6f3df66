-- What is loaded from a text: well-formed code of which it is the listing, or the first line by which it is none.
use Rattle.std.specs.Prelude.{◌≡◌, ℕ, ◌⊎◌, nat_lt, List, Option, Some, None, Result, Ok, Err, if◌then◌else◌}
use Rattle.psm_code.specs.declared.code.RawCode.{RawCode}
use Rattle.psm_code.specs.declared.rule.CodeRule.{CodeRule}
use Rattle.psm_code.specs.RoutineRules.{first_fault}
use Rattle.psm_object.specs.Listing.{listing}
use Rattle.psm_load.specs.Due.{first_misfit}
use Rattle.psm_load.specs.Listed.{IsListed}
use Rattle.psm_load.specs.Stated.{Stated, stated}
use Rattle.psm_load.specs.declared.fault.ObjectFault.{ObjectFault}
use Rattle.psm_load.specs.declared.fault.ObjectFault.TheVariants.{NotObject, IllFormed}
use Rattle.psm_load.specs.declared.fault.LoadFault.{LoadFault}
use Rattle.psm_load.specs.declared.fault.LoadFault.TheVariants.{Refused, Memory}

-- the text is the listing of that code, whose parts lines can say, and which breaks no rule
pub record IsObject (text : List ℕ) (code : RawCode) : Type 0 where
  pub text_is : text ≡ listing code
  pub listed : IsListed code
  pub well_formed : first_fault code ≡ None

-- the earlier one of two lines with the rules that they break; a line that stands for nothing that code holds breaks its own rule alone
abbrev pub earlier : ℕ × CodeRule → Option (ℕ × CodeRule) → ℕ × CodeRule
earlier o None = o
earlier o (Some f) = if nat_lt f.0 o.0 then f else o

-- the first line of what a text stands for that breaks a rule, and the lowest rule that it breaks
abbrev pub fault_with : Option (ℕ × CodeRule) → Option (ℕ × CodeRule) → Option (ℕ × CodeRule)
fault_with None fault = fault
fault_with (Some o) fault = Some (earlier o fault)

abbrev pub fault_of : Stated → Option (ℕ × CodeRule)
fault_of s = fault_with s.odd (first_fault s.code)

-- the text stands for code or for lines that it can't hold, and that is the first line that breaks a rule
pub record BreaksRule (text : List ℕ) (line : ℕ) (rule : CodeRule) : Type 0 where
  pub stands_for : Stated
  pub stated_is : stated text ≡ Ok stands_for
  pub fault_is : fault_of stands_for ≡ Some (line, rule)

-- the first line by which the text is no object, and why: it isn't one of the kind that is due, or breaks that rule
abbrev pub IsObjectFault : List ℕ → ℕ → ObjectFault → Type 0
IsObjectFault text line NotObject = first_misfit text ≡ Some line
IsObjectFault text line (IllFormed rule) = BreaksRule text line rule

-- what is answered for a text
abbrev pub Loads : List ℕ → Result RawCode LoadFault → Type 0
Loads text (Ok code) = IsObject text code
Loads text (Err (Refused line fault)) = IsObjectFault text line fault
Loads text (Err Memory) = Unit {0}

-- the answer is that code, unless memory runs out
abbrev pub GivesCode : RawCode → Result RawCode LoadFault → Type 0
GivesCode code (Ok c) = c ≡ code
GivesCode code (Err e) = e ≡ Memory

-- the answer is that refusal, unless memory runs out
abbrev pub GivesRefusal : ℕ → ObjectFault → Result RawCode LoadFault → Type 0
GivesRefusal line fault (Ok c) = ⊥
GivesRefusal line fault (Err e) = (e ≡ Refused line fault) ⊎ (e ≡ Memory)
