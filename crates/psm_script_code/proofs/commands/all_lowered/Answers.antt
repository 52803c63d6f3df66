use Rattle.psm_script_code.proofs.Making.{lowered_more}
use Rattle.psm_script_code.proofs.commands.all_lowered.Goals as goal

pub loop-command-preserved : goal.loop-command-preserved
loop-command-preserved c =
    lowered_more c.args.known.now c.args.procedures.now c.loop-command.yielded c.loop-command.made.items c.push.new.self.items c.in-Some.command c.in_ok-lowered.field-0
    c.in_ok-push.ensures.items c.loop-command.invariant c.in_ok-lowered.ensures
