-- What the checker answers over what is known of code.
use Rattle.std.proofs.Common.{◌≡◌, subst}
use Rattle.std.specs.Prelude.{Result}
use Rattle.psm_tree.specs.declared.script.ScriptTree.{ScriptTree}
use Rattle.psm_check_script.specs.Checked.{Checks}
use Rattle.psm_check_script.specs.Known.{Known}
use Rattle.psm_check_script.specs.declared.check.CheckFault.{CheckFault}
use Rattle.psm_check_script.specs.declared.command.ResolvedScript.{ResolvedScript}

pub known_as : (k j : Known) (s : ScriptTree) (r : Result ResolvedScript CheckFault) → k ≡ j → Checks k s r → Checks j s r
known_as k j s r e h = subst (λ l. Checks l s r) e h
