use Rattle.std.proofs.Common.{[], ap, sym, ◌∙◌, rules}
use Rattle.std.proofs.lemmas.Str.{chars-IsAscii}
use Rattle.psm_code.specs.Steps.{got}
use Rattle.psm_machine.proofs.signalling.message_text.Goals as goal

pub returns-in_ok-spelled-in-Null : goal.returns-in_ok-spelled-in-Null
returns-in_ok-spelled-in-Null c = λ m. rw c.in-Null.is (ap (λ t. got t m) (sym (c.in_ok-spelled-in-Null.ensures ∙ chars-IsAscii [] (search rules))))
