use Rattle.std.proofs.Common.{sym, ap, ◌∙◌}
use Rattle.psm_code.specs.Run.{Successor, next_or_end}
use Rattle.psm_code.specs.State.{Machine}
use Rattle.psm_code.specs.Steps.{Got}
use Rattle.psm_unwind.specs.View.{machine_of}
use Rattle.psm_machine.proofs.Doing.{goes_to}
use Rattle.psm_machine.proofs.OneStep.{stopped_act}
use Rattle.psm_machine.proofs.stepping.take_next.Goals as goal

pub returns-in_err-there-clause-expected : goal.returns-in_err-there-clause-expected
returns-in_err-there-clause-expected g c =
    let tables = g.S.Store.tables c.args.store.now in
    let at = g.S.Store.at c.args.store.now in
    stopped_act (next_or_end c.args.routine.now c.args.cursor c.args.end (machine_of tables at c.args.run.now)) c.in_err-there.field-0.0 (machine_of tables at c.next.new.run) c.from_residual.result c.from_residual.ensures.1 (c.in_err-there.ensures.expected c.args.end at)

pub returns-clause-expected : goal.returns-clause-expected
returns-clause-expected g c =
    let tables = g.S.Store.tables c.args.store.now in
    let at = g.S.Store.at c.args.store.now in
    let m : Machine = machine_of tables at c.next.new.run in
    goes_to (next_or_end c.args.routine.now c.args.cursor c.args.end (machine_of tables at c.args.run.now)) c.next_of.result m (machine_of tables at c.go.new.run) c.go.result
    (c.in_ok-there.ensures.expected c.args.end at ∙ ap (λ (w : Successor). record { given = Got w; machine = m }) (sym c.next_of.ensures)) (c.go.ensures.expected tables at)
