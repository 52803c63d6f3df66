use Rattle.std.proofs.Common.{refl}
use Rattle.psm_session.specs.Steps.{standing}
use Rattle.psm_session.proofs.CommandResults.{nothing_settles, rollback_settles}
use Rattle.psm_session.proofs.transaction.settle.Goals as goal

pub returns-in-Commit-clause-settles : goal.returns-in-Commit-clause-settles
returns-in-Commit-clause-settles g c = rw c.in-Commit.is c.commit.ensures.settles

pub returns-in-Rollback-clause-settles : goal.returns-in-Rollback-clause-settles
returns-in-Rollback-clause-settles g c = λ turns.
    rw c.in-Rollback.is (rollback_settles c.args.step (g.S.Store.tables c.args.store.now) (g.S.Store.tables c.roll_back.new.store) (g.S.Store.at c.args.store.now c.args.mark.now) (g.S.Store.at c.roll_back.new.store c.args.mark.now) turns
    c.roll_back.ensures.tables c.roll_back.ensures.stands)

pub returns-in-Call-clause-settles : goal.returns-in-Call-clause-settles
returns-in-Call-clause-settles g c = λ turns.
    let t = standing (g.S.Store.tables c.args.store.now) turns (g.S.Store.at c.args.store.now c.args.mark.now) in
    nothing_settles c.args.step c.args.command.now t (rw c.in-Call.is refl)

pub returns-in-Insert-clause-settles : goal.returns-in-Insert-clause-settles
returns-in-Insert-clause-settles g c = λ turns.
    let t = standing (g.S.Store.tables c.args.store.now) turns (g.S.Store.at c.args.store.now c.args.mark.now) in
    nothing_settles c.args.step c.args.command.now t (rw c.in-Insert.is refl)

pub returns-in-Select-clause-settles : goal.returns-in-Select-clause-settles
returns-in-Select-clause-settles g c = λ turns.
    let t = standing (g.S.Store.tables c.args.store.now) turns (g.S.Store.at c.args.store.now c.args.mark.now) in
    nothing_settles c.args.step c.args.command.now t (rw c.in-Select.is refl)
