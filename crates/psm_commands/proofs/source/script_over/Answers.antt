use Rattle.std.proofs.Common.{subst, ℕ, List}
use Rattle.psm_build.specs.ModuleCode.{IsScriptFaultOver}
use Rattle.psm_commands.specs.Reading.{IsFaultOf, IsScriptBy, Makes}
use Rattle.psm_commands.specs.declared.source.Which.TheVariants.{Script}
use Rattle.psm_commands.proofs.Reading.{script_read}
use Rattle.psm_commands.proofs.source.script_over.Goals as goal

pub returns : goal.returns
returns g c = script_read _ _ c.in_ok-bytes.bytes.items c.in_ok-bytes.ensures.gives c.args.code.now _
    (subst (λ (b : List ℕ). Makes (IsScriptBy c.args.code.now b) (IsFaultOf Script (IsScriptFaultOver c.args.code.now b)) c.commands_of.result) c.deref.ensures.value c.commands_of.ensures)
