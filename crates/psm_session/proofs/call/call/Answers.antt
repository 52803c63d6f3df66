use Rattle.std.proofs.Common.{List, subst}
use Rattle.psm_value.specs.declared.datum.Datum.{Datum}
use Rattle.psm_machine.specs.Running.{RunsTo}
use Rattle.psm_session.proofs.Calls.{call_makes}
use Rattle.psm_session.proofs.call.call.Goals as goal

pub returns-clause-made : goal.returns-clause-made
returns-clause-made g c = λ committed.
    let old = g.S.Store.tables c.args.store.now in
    let now = g.S.Store.tables c.run.new.store in
    let finished = c.in_ok-finished.finished in
    let ran = subst (λ (values : List Datum). RunsTo c.args.code.now c.args.routine values old c.args.turns.now finished now) c.in_ok-arguments.ensures c.in_ok-finished.ensures.expected in
    call_makes c.args.code.now c.args.number c.args.routine c.args.values.now old c.args.turns.now committed c.routine_of.result.now c.routine_of.ensures
    finished now c.goes_on-goes_on.result c.in_ok-piece.piece.items c.turns_left.result ran c.in_ok-finished.ensures.ends c.in_ok-piece.ensures c.goes_on-goes_on.ensures c.turns_left.ensures
