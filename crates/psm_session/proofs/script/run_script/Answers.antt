use Rattle.psm_session.specs.Ends.{beginning}
use Rattle.psm_session.specs.Steps.{standing}
use Rattle.psm_session.proofs.Scripts.{short_at_once}
use Rattle.psm_session.proofs.script.run_script.Goals as goal

pub returns-in_default-clause-ends : goal.returns-in_default-clause-ends
returns-in_default-clause-ends g c =
    let tables = g.S.Store.tables c.mark.new.self in
    short_at_once c.args.code.now c.args.script.now.commands (beginning (g.S.Store.tables c.args.store.now) c.args.turns.now) (standing tables c.args.turns.now tables) (g.K.Sink.written c.args.out.now) (g.K.Sink.faults c.args.out.now) c.mark.ensures.tables
