use Rattle.psm_session.proofs.CommandResults.{select_made}
use Rattle.psm_session.proofs.Inserts.{if_ok_map}
use Rattle.psm_session.proofs.select.select.Goals as goal

pub returns : goal.returns
returns g c =
    if_ok_map _ _ c.piece_of_query.result (λ piece h code turns committed.
    select_made code c.args.number (g.S.Store.tables c.args.store.now) turns committed c.args.query.now piece.items c.requires.exists h) c.piece_of_query.ensures
