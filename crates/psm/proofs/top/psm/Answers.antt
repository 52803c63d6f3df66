use Rattle.std.proofs.Common.{refl}
use Rattle.psm.proofs.Answering.{says_usage, says_command, completes_usage, completes_command}
use Rattle.psm.proofs.top.psm.Goals as goal

pub returns-in-None-clause-says : goal.returns-in-None-clause-says
returns-in-None-clause-says g c = says_usage _ _ _ c.in-None.ensures.form (λ n. refl) c.report_usage.ensures

pub returns-in-None-clause-completes : goal.returns-in-None-clause-completes
returns-in-None-clause-completes g c = completes_usage _ _ _ c.in-None.ensures.form c.report_usage.ensures

pub returns-in-Some-clause-says : goal.returns-in-Some-clause-says
returns-in-Some-clause-says g c = says_command _ _ _ _ c.in-Some.ensures.form c.perform.ensures.says

pub returns-in-Some-clause-completes : goal.returns-in-Some-clause-completes
returns-in-Some-clause-completes g c = completes_command _ _ _ _ c.in-Some.ensures.form c.perform.ensures.completes
