-- What is said of a text that is no object.
use Rattle.std.specs.Prelude.{ℕ, List, codes}
use Rattle.psm_code.specs.declared.rule.CodeRule.{CodeRule}
use Rattle.psm_code.specs.declared.rule.CodeRule.TheVariants.{Range, Target, Stack, Context, Resume, Turn, Place, Definition}
use Rattle.psm_load.specs.declared.fault.ObjectFault.{ObjectFault}
use Rattle.psm_load.specs.declared.fault.ObjectFault.TheVariants.{NotObject, IllFormed}

-- the number of a rule, and what it is that breaks it
abbrev pub rule_text : CodeRule → List ℕ
rule_text Range = codes "F1 number out of range"
rule_text Target = codes "F2 target outside the routine"
rule_text Stack = codes "F3 stack does not follow"
rule_text Context = codes "F4 context does not follow"
rule_text Resume = codes "F5 resume does not follow"
rule_text Turn = codes "F6 backward jump without turn"
rule_text Place = codes "F7 instruction not allowed here"
rule_text Definition = codes "F8 schema or plan not valid"

abbrev pub text_of : ObjectFault → List ℕ
text_of NotObject = codes "not an object text"
text_of (IllFormed rule) = rule_text rule
