use Rattle.std.proofs.Common.{subst, ℕ, List}
use Rattle.psm_build.specs.Program.{IsModuleFault, StandsFor}
use Rattle.psm_commands.specs.Reading.{IsFaultOf, Makes}
use Rattle.psm_commands.specs.declared.source.Which.TheVariants.{Module}
use Rattle.psm_commands.proofs.Reading.{module_read}
use Rattle.psm_commands.proofs.source.module_code.Goals as goal

pub returns-clause-gives : goal.returns-clause-gives
returns-clause-gives g c = module_read _ _ c.in_ok-bytes.bytes.items c.in_ok-bytes.ensures.gives _ (subst (λ (b : List ℕ). Makes (StandsFor b) (IsFaultOf Module (IsModuleFault b)) c.code_of.result) c.deref.ensures.value c.code_of.ensures)
