use Rattle.std.proofs.Common.{ℕ, true, List, ap, sym, subst, ◌∙◌}
use Rattle.psm_value.specs.declared.datum.Datum.{Datum}
use Rattle.psm_table.specs.Table.{Contents}
use Rattle.psm_session.specs.Ends.{FitsCommand}
use Rattle.psm_session.specs.Steps.{Makes, settled, standing}
use Rattle.psm_session.specs.declared.command.ScriptCommand.TheVariants as commands
use Rattle.psm_session.proofs.CommandResults.{commit_made, made_as, rollback_made, went_on}
use Rattle.psm_session.proofs.Inserts.{if_ok_map}
use Rattle.psm_session.proofs.Queries.{query_type_checks, query_there}
use Rattle.psm_session.proofs.work.work.Goals as goal

pub select-requires-clause-exists : goal.select-requires-clause-exists
select-requires-clause-exists g c = query_there c.args.code.now (g.S.Store.tables c.args.store.now) c.in-Select.query c.requires.kept (subst (FitsCommand c.args.code.now) c.in-Select.is c.requires.fits)

pub select-requires-clause-type_checks : goal.select-requires-clause-type_checks
select-requires-clause-type_checks g c = query_type_checks c.args.code.now (g.S.Store.tables c.args.store.now) c.in-Select.query c.requires.kept (subst (FitsCommand c.args.code.now) c.in-Select.is c.requires.fits)

pub returns-in-Call-clause-made : goal.returns-in-Call-clause-made
returns-in-Call-clause-made g c =
    let named = c.in-Call.is ∙ ap (λ (values : List Datum). commands.Call c.in-Call.routine values) (sym c.items.ensures) in
    if_ok_map _ _ c.call.result (λ e h committed.
    made_as c.args.code.now c.args.number (standing (g.S.Store.tables c.args.store.now) c.args.turns.now committed) (commands.Call c.in-Call.routine c.items.result.now) c.args.command.now
    (standing (g.S.Store.tables c.call.new.store) c.call.new.turns committed) named e.goes_on e.piece.items (h committed)) c.call.ensures.made

pub returns-in-Insert-clause-made : goal.returns-in-Insert-clause-made
returns-in-Insert-clause-made g c =
    let columns = c.items-in-Insert.result.now in
    let named = c.in-Insert.is ∙ ap (λ (places : List ℕ). commands.Insert c.in-Insert.table places c.in-Insert.rows) (sym c.items-in-Insert.ensures)
    ∙ ap (λ (rows : List (List Datum)). commands.Insert c.in-Insert.table columns rows) (sym c.items-in-Insert-2.ensures) in
    went_on (λ goes piece. (committed : List Contents) → Makes c.args.code.now c.args.number (standing (g.S.Store.tables c.args.store.now) c.args.turns.now committed) c.args.command.now goes piece
    (settled c.args.command.now (standing (g.S.Store.tables c.insert.new.store) c.args.turns.now committed))) c.insert.result c.going_on.result c.going_on.ensures
    (if_ok_map _ _ c.insert.result (λ piece h committed.
    made_as c.args.code.now c.args.number (standing (g.S.Store.tables c.args.store.now) c.args.turns.now committed) (commands.Insert c.in-Insert.table columns c.items-in-Insert-2.result.now) c.args.command.now
    (standing (g.S.Store.tables c.insert.new.store) c.args.turns.now committed) named true piece.items (h c.args.turns.now committed)) c.insert.ensures.made)

pub returns-in-Select-clause-made : goal.returns-in-Select-clause-made
returns-in-Select-clause-made g c =
    went_on (λ goes piece. (committed : List Contents) → Makes c.args.code.now c.args.number (standing (g.S.Store.tables c.args.store.now) c.args.turns.now committed) c.args.command.now goes piece
    (settled c.args.command.now (standing (g.S.Store.tables c.args.store.now) c.args.turns.now committed))) c.select.result c.going_on-in-Select.result c.going_on-in-Select.ensures
    (if_ok_map _ _ c.select.result (λ piece h committed.
    made_as c.args.code.now c.args.number (standing (g.S.Store.tables c.args.store.now) c.args.turns.now committed) (commands.Select c.in-Select.query) c.args.command.now
    (standing (g.S.Store.tables c.args.store.now) c.args.turns.now committed) c.in-Select.is true piece.items (h c.args.code.now c.args.turns.now committed)) c.select.ensures)

pub returns-in-Commit-clause-made : goal.returns-in-Commit-clause-made
returns-in-Commit-clause-made g c =
    went_on (λ goes piece. (committed : List Contents) → Makes c.args.code.now c.args.number (standing (g.S.Store.tables c.args.store.now) c.args.turns.now committed) c.args.command.now goes piece
    (settled c.args.command.now (standing (g.S.Store.tables c.args.store.now) c.args.turns.now committed))) c.piece_of.result c.going_on-in-Commit.result c.going_on-in-Commit.ensures
    (if_ok_map _ _ c.piece_of.result (λ piece h committed.
    let s = standing (g.S.Store.tables c.args.store.now) c.args.turns.now committed in
    made_as c.args.code.now c.args.number s commands.Commit c.args.command.now s c.in-Commit.is true piece.items (commit_made c.args.code.now c.args.number s piece.items h)) c.piece_of.ensures)

pub returns-in-Rollback-clause-made : goal.returns-in-Rollback-clause-made
returns-in-Rollback-clause-made g c =
    went_on (λ goes piece. (committed : List Contents) → Makes c.args.code.now c.args.number (standing (g.S.Store.tables c.args.store.now) c.args.turns.now committed) c.args.command.now goes piece
    (settled c.args.command.now (standing (g.S.Store.tables c.args.store.now) c.args.turns.now committed))) c.piece_of-in-Rollback.result c.going_on-in-Rollback.result c.going_on-in-Rollback.ensures
    (if_ok_map _ _ c.piece_of-in-Rollback.result (λ piece h committed.
    let s = standing (g.S.Store.tables c.args.store.now) c.args.turns.now committed in
    made_as c.args.code.now c.args.number s commands.Rollback c.args.command.now s c.in-Rollback.is true piece.items (rollback_made c.args.code.now c.args.number s piece.items h)) c.piece_of-in-Rollback.ensures)
