use Rattle.std.proofs.Common.{Err, ap, subst, sym, ◌∙◌}
use Rattle.psm_unwind.specs.View.{machine_of}
use Rattle.psm_machine.specs.declared.stop.Stop.TheVariants.{Raises}
use Rattle.psm_machine.specs.Successors.{StepsTo}
use Rattle.psm_machine.proofs.Dropping.{settled_ok, settled_raises}
use Rattle.psm_machine.proofs.Standing.{still_unwound}
use Rattle.psm_machine.proofs.completion.settle.Goals as goal

pub returns-in-Ok-clause-expected : goal.returns-in-Ok-clause-expected
returns-in-Ok-clause-expected g c = λ came h.
    let m = machine_of (g.S.Store.tables c.args.store.now) (g.S.Store.at c.args.store.now) c.args.run.now in
    settled_ok c.args.code.now came c.in-Ok.outcome m (subst (λ r. StepsTo came r m) c.in-Ok.is h)

pub returns-in-Err-Raises-clause-expected : goal.returns-in-Err-Raises-clause-expected
returns-in-Err-Raises-clause-expected g c = λ came h.
    let m = machine_of (g.S.Store.tables c.args.store.now) (g.S.Store.at c.args.store.now) c.args.run.now in
    settled_raises c.args.code.now came c.into_inner.result m (machine_of (g.S.Store.tables c.raise.new.store) (g.S.Store.at c.raise.new.store) c.raise.new.run) c.raise.result
    (subst (λ r. StepsTo came r m) (c.in-Err-Raises.is ∙ ap Err c.in-Err-Raises.field-0-is ∙ ap (λ x. Err (Raises x)) (sym c.into_inner.ensures)) h) c.raise.ensures.expected

pub returns-in-Err-Raises-clause-still : goal.returns-in-Err-Raises-clause-still
returns-in-Err-Raises-clause-still g c =
    still_unwound (g.S.Store.holds c.args.store.now) (g.S.Store.at c.args.store.now) (g.S.Store.marks c.args.store.now) (g.S.Store.tables c.args.store.now) c.args.run.now
    (g.S.Store.holds c.raise.new.store) (g.S.Store.at c.raise.new.store) (g.S.Store.marks c.raise.new.store) (g.S.Store.tables c.raise.new.store) c.raise.new.run c.raise.ensures.unwinds
