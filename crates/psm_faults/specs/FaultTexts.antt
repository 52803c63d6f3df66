-- What is said of a file that is refused.
use Rattle.std.specs.Prelude.{ℕ, List, [], codes}
use Rattle.psm_rules.specs.Texts as rules
use Rattle.psm_faults.specs.declared.fault.Fault.{Fault}
use Rattle.psm_faults.specs.declared.fault.Fault.TheVariants.{BadUtf8, BadChar, OpenText, OpenName, LongText, LongNumber, LongName, ManyTokens, Syntax, Deep, Broken}
use Rattle.psm_faults.specs.declared.fault.BuildFault.{BuildFault}
use Rattle.psm_faults.specs.declared.fault.BuildFault.TheVariants.{Refused, Memory}

-- what its fault is
abbrev pub text_of : Fault → List ℕ
text_of BadUtf8 = codes "not UTF-8"
text_of BadChar = codes "bad character"
text_of OpenText = codes "text without end"
text_of OpenName = codes "name without end"
text_of LongText = codes "text too long"
text_of LongNumber = codes "number too long"
text_of LongName = codes "name too long"
text_of ManyTokens = codes "too many tokens"
text_of Syntax = codes "syntax fault"
text_of Deep = codes "nested too deep"
text_of (Broken rule) = rules.text_of rule

-- the same of a refusal for a fault
abbrev pub refusal_text : BuildFault → List ℕ
refusal_text (Refused line column fault) = text_of fault
refusal_text Memory = []
