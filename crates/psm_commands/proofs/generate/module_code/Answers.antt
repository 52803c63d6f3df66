use Rattle.std.proofs.Common.{ℕ, List, subst}
use Rattle.psm_build.specs.Program.{IsModuleFault, StandsFor}
use Rattle.psm_commands.specs.Reading.{IsFaultOf, Makes}
use Rattle.psm_commands.specs.declared.source.Which.TheVariants.{Module}
use Rattle.psm_commands.proofs.generate.module_code.Goals as goal

pub returns : goal.returns
returns c = subst (λ (b : List ℕ). Makes (StandsFor b) (IsFaultOf Module (IsModuleFault b)) c.code_of.result) c.as_bytes.ensures.value c.code_of.ensures
