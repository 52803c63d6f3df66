use Rattle.psm_session.specs.Put.{sunk_of}
use Rattle.psm_session.proofs.CommandResults.{closed_at}
use Rattle.psm_session.proofs.script.show.Goals as goal

pub returns-clause-shows : goal.returns-clause-shows
returns-clause-shows g c = λ committed.
    closed_at c.args.code.now c.args.number c.args.command.now (sunk_of g.K.Sink.written g.K.Sink.faults c.args.out.now c.work_and_put-step.new.out)
    (g.S.Store.tables c.args.store.now) (g.S.Store.tables c.mark.new.self) (g.S.Store.at c.mark.new.self c.in-Ok.mark) (g.S.Store.at c.work_and_put-step.new.store c.in-Ok.mark) (g.S.Store.tables c.work_and_put-step.new.store) (g.S.Store.tables c.close.new.store)
    c.args.turns.now c.work_and_put-step.new.turns committed c.work_and_put-step.result c.mark.ensures.tables c.in-Ok.ensures.mark.stands (c.work_and_put-step.ensures.keeps c.in-Ok.mark c.in-Ok.ensures.mark.held tt).1 (c.work_and_put-step.ensures.does committed) c.close.ensures.tables
