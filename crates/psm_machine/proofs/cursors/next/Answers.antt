use Rattle.std.proofs.Common.{refl}
use Rattle.psm_machine.specs.Over.{as_successor}
use Rattle.psm_machine.proofs.ActSequences.{stopped}
use Rattle.psm_machine.proofs.Fetching.{successor_stops}
use Rattle.psm_machine.proofs.cursors.next.Goals as goal

pub returns-in_err-put_values-in-Some-clause-expected : goal.returns-in_err-put_values-in-Some-clause-expected
returns-in_err-put_values-in-Some-clause-expected g c = λ end at.
    rw (c.in_ok-next_row.ensures.expected at, c.in-Some.is)
    (stopped _ _ _ c.in_err-put_values-in-Some.field-0.0 (as_successor end c.from_residual-in_err-put_values-in-Some.result) (successor_stops end c.from_residual-in_err-put_values-in-Some.result c.in_err-put_values-in-Some.field-0.0 c.from_residual-in_err-put_values-in-Some.ensures.1)
    (c.in_err-put_values-in-Some.ensures.expected (g.S.Store.tables c.args.store.now) at))

pub returns-in_ok-put_values-in-Some-clause-expected : goal.returns-in_ok-put_values-in-Some-clause-expected
returns-in_ok-put_values-in-Some-clause-expected g c = λ end at.
    rw (c.in_ok-next_row.ensures.expected at, c.in-Some.is, c.in_ok-put_values-in-Some.ensures.expected (g.S.Store.tables c.args.store.now) at) refl
