use Rattle.psm_commands.proofs.Generating.{generate_refuses, generate_sums}
use Rattle.psm_commands.proofs.generate.generate.Goals as goal

pub returns-in-Ok : goal.returns-in-Ok
returns-in-Ok g c = λ fetches stays. generate_sums fetches stays c.args.calls c.in-Ok.end _ _ c.in-Ok.ensures c.put_summary.ensures

pub returns-in-Err : goal.returns-in-Err
returns-in-Err g c = λ fetches stays. generate_refuses fetches stays c.args.calls c.in-Err.refusal _ _ c.in-Err.ensures c.report.ensures
