use Rattle.psm_commands.proofs.Outcomes.{shown_run}
use Rattle.psm_commands.proofs.session_run.run_session.Goals as goal

pub returns : goal.returns
returns g c = λ s following runs_as. rw c.status_of.ensures (shown_run c.args.code.now c.args.script.now.commands c.args.turns _ c.in-Ok.ensures.tables _ _ _ c.run_script.result c.run_script.ensures.ends s following runs_as)
