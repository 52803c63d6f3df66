use Rattle.psm_commands.proofs.Answering.{says_listing, says_module}
use Rattle.psm_commands.proofs.compile.compile.Goals as goal

pub returns-in-Ok : goal.returns-in-Ok
returns-in-Ok g c = says_listing _ _ c.in-Ok.code _ _ c.in-Ok.ensures.gives (c.code_means_its_module.ensures _ _ c.in-Ok.ensures.gives.is) c.put_listing.ensures

pub returns-in-Err : goal.returns-in-Err
returns-in-Err g c = says_module _ _ _ c.in-Err.refusal _ _ c.in-Err.ensures.gives c.report.ensures
