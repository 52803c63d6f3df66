use Rattle.std.proofs.Common.{refl, ap, sym, subst, ◌∙◌, arith}
use Rattle.std.specs.Option.{option_copied}
use Rattle.psm_sqlstate.specs.Kind.{kind_of}
use Rattle.psm_cond.specs.Choice.{is_exception}
use Rattle.psm_code.specs.Raising.{chosen, handled}
use Rattle.psm_unwind.specs.declared.ending.Outcome.TheVariants.{More}
use Rattle.psm_unwind.specs.View.{LeadsTo, machine_of}
use Rattle.psm_unwind.proofs.Arriving.{handled_more}
use Rattle.psm_unwind.proofs.Unwinding.{unwinds_none}
use Rattle.psm_unwind.proofs.raising.handle.Goals as goal

pub returns-then-run-eq0-clause-unwinds : goal.returns-then-run-eq0-clause-unwinds
returns-then-run-eq0-clause-unwinds g c = unwinds_none (g.S.Store.holds c.args.store.now) (g.S.Store.at c.args.store.now) (g.S.Store.marks c.args.store.now) (g.S.Store.tables c.args.store.now) c.args.run.now c.args.run.now c.requires.nested refl refl refl refl

pub returns-in-None-clause-unwinds : goal.returns-in-None-clause-unwinds
returns-in-None-clause-unwinds g c = unwinds_none (g.S.Store.holds c.args.store.now) (g.S.Store.at c.args.store.now) (g.S.Store.marks c.args.store.now) (g.S.Store.tables c.args.store.now) c.args.run.now c.args.run.now c.requires.nested refl refl refl refl

pub returns-in_ok-begin-in-Some-clause-expected : goal.returns-in_ok-begin-in-Some-clause-expected
returns-in_ok-begin-in-Some-clause-expected g c =
    let undo = is_exception (kind_of c.args.condition.now.first.state) in
    let h = c.in-Some.handler.now in
    subst (λ o. LeadsTo (chosen c.args.routine.now undo c.args.resume c.args.number o (machine_of (g.S.Store.tables c.args.store.now) (g.S.Store.at c.args.store.now) c.args.run.now)) More (machine_of (g.S.Store.tables c.begin.new.store) (g.S.Store.at c.begin.new.store) c.begin.new.run)) (sym (ap option_copied c.in-Some.is) ∙ c.handler_at.ensures)
    (handled_more (handled c.args.routine.now undo c.args.resume c.args.number h h.kind) (machine_of (g.S.Store.tables c.args.store.now) (g.S.Store.at c.args.store.now) c.args.run.now) (machine_of (g.S.Store.tables c.begin.new.store) (g.S.Store.at c.begin.new.store) c.begin.new.run) (omega (arith, c.if-run-eq0.false)) c.in_ok-begin-in-Some.ensures.expected)
