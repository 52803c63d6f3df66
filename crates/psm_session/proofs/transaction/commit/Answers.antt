use Rattle.std.proofs.Common.{refl, ◌∙◌, inr}
use Rattle.psm_session.proofs.CommandResults.{commit_settles}
use Rattle.psm_session.proofs.transaction.commit.Goals as goal

pub returns-in_ok-mark-in-Next-clause-settles : goal.returns-in_ok-mark-in-Next-clause-settles
returns-in_ok-mark-in-Next-clause-settles g c = λ turns.
    let tables = c.in_ok-mark-in-Next.ensures.tables ∙ c.release.ensures.tables in
    let committed = c.in_ok-mark-in-Next.ensures.mark.stands ∙ c.release.ensures.tables in
    rw c.in-Next.is (refl, commit_settles (g.S.Store.tables c.args.store.now) (g.S.Store.tables c.mark.new.self) (g.S.Store.at c.args.store.now c.args.mark.now) (g.S.Store.at c.mark.new.self c.in_ok-mark-in-Next.field-0) turns tables committed, inr committed)
