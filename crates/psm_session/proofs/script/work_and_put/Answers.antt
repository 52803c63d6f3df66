use Rattle.psm_session.specs.Steps.{standing}
use Rattle.psm_session.proofs.CommandResults.{does}
use Rattle.psm_session.proofs.script.work_and_put.Goals as goal

pub returns-in-Ok-clause-does : goal.returns-in-Ok-clause-does
returns-in-Ok-clause-does g c = λ committed.
    does c.args.code.now c.args.number (standing (g.S.Store.tables c.args.store.now) c.args.turns.now committed) c.args.command.now _ c.in-Ok.end.piece.items c.in-Ok.end.goes_on
    (standing (g.S.Store.tables c.work.new.store) c.work.new.turns committed) c.put.result c.put.ensures (c.in-Ok.ensures.made committed)
