use Rattle.std.proofs.Common.{None, ap, sym, ◌∙◌}
use Rattle.psm_sqlstate.specs.Kind.{kind_of}
use Rattle.psm_cond.specs.Choice.{is_exception}
use Rattle.psm_code.specs.Raising.{acting, arrived, handled, undone}
use Rattle.psm_unwind.specs.View.{machine_of}
use Rattle.psm_unwind.proofs.Arriving.{ok_map}
use Rattle.psm_unwind.proofs.Unwinding.{nested_unwound, unwinds_none, unwinds_then}
use Rattle.psm_unwind.proofs.raising.begin.Goals as goal

pub take_back-requires : goal.take_back-requires
take_back-requires g c = nested_unwound (g.S.Store.holds c.args.store.now) (g.S.Store.at c.args.store.now) (g.S.Store.marks c.args.store.now) (g.S.Store.tables c.args.store.now) c.args.run.now (g.S.Store.holds c.arrive-in-Undo.new.store) (g.S.Store.at c.arrive-in-Undo.new.store) (g.S.Store.marks c.arrive-in-Undo.new.store) (g.S.Store.tables c.arrive-in-Undo.new.store) c.arrive-in-Undo.new.run c.requires.nested c.arrive-in-Undo.ensures.unwinds

pub returns-in-Continue-clause-expected : goal.returns-in-Continue-clause-expected
returns-in-Continue-clause-expected g c =
    ok_map c.act.result c.act.ensures.expected
    (λ f. ap (λ k. handled c.args.routine.now (is_exception (kind_of c.args.condition.now.first.state)) c.args.resume c.args.number c.args.handler.now k (machine_of (g.S.Store.tables c.args.store.now) (g.S.Store.at c.args.store.now) c.args.run.now)) c.in-Continue.is ∙ f (g.S.Store.tables c.args.store.now) (g.S.Store.at c.args.store.now))

pub returns-in-Continue-clause-unwinds : goal.returns-in-Continue-clause-unwinds
returns-in-Continue-clause-unwinds g c =
    unwinds_none (g.S.Store.holds c.args.store.now) (g.S.Store.at c.args.store.now) (g.S.Store.marks c.args.store.now) (g.S.Store.tables c.args.store.now) c.args.run.now c.act.new.run c.requires.nested c.act.ensures.marks c.act.ensures.bound c.act.ensures.base c.act.ensures.callers

pub returns-in-Exit-clause-expected : goal.returns-in-Exit-clause-expected
returns-in-Exit-clause-expected g c =
    ok_map c.act-in-Exit.result c.act-in-Exit.ensures.expected
    (λ f. ap (λ k. handled c.args.routine.now (is_exception (kind_of c.args.condition.now.first.state)) c.args.resume c.args.number c.args.handler.now k (machine_of (g.S.Store.tables c.args.store.now) (g.S.Store.at c.args.store.now) c.args.run.now)) c.in-Exit.is
    ∙ ap (λ b. acting c.args.number None c.args.handler.now (arrived c.args.routine.now b c.args.handler.now (machine_of (g.S.Store.tables c.args.store.now) (g.S.Store.at c.args.store.now) c.args.run.now))) (sym (c.is_exception-undo.ensures ∙ ap is_exception c.kind.ensures))
    ∙ ap (acting c.args.number None c.args.handler.now) c.arrive.ensures.expected
    ∙ f (g.S.Store.tables c.arrive.new.store) (g.S.Store.at c.arrive.new.store))

pub returns-in-Exit-clause-unwinds : goal.returns-in-Exit-clause-unwinds
returns-in-Exit-clause-unwinds g c =
    unwinds_then (g.S.Store.holds c.args.store.now) (g.S.Store.at c.args.store.now) (g.S.Store.marks c.args.store.now) (g.S.Store.tables c.args.store.now) c.args.run.now (g.S.Store.holds c.arrive.new.store) (g.S.Store.at c.arrive.new.store) (g.S.Store.marks c.arrive.new.store) (g.S.Store.tables c.arrive.new.store) c.arrive.new.run (g.S.Store.holds c.arrive.new.store) (g.S.Store.at c.arrive.new.store) (g.S.Store.marks c.arrive.new.store) (g.S.Store.tables c.arrive.new.store) c.act-in-Exit.new.run c.arrive.ensures.unwinds
    (unwinds_none (g.S.Store.holds c.arrive.new.store) (g.S.Store.at c.arrive.new.store) (g.S.Store.marks c.arrive.new.store) (g.S.Store.tables c.arrive.new.store) c.arrive.new.run c.act-in-Exit.new.run (nested_unwound (g.S.Store.holds c.args.store.now) (g.S.Store.at c.args.store.now) (g.S.Store.marks c.args.store.now) (g.S.Store.tables c.args.store.now) c.args.run.now (g.S.Store.holds c.arrive.new.store) (g.S.Store.at c.arrive.new.store) (g.S.Store.marks c.arrive.new.store) (g.S.Store.tables c.arrive.new.store) c.arrive.new.run c.requires.nested c.arrive.ensures.unwinds)
    c.act-in-Exit.ensures.marks c.act-in-Exit.ensures.bound c.act-in-Exit.ensures.base c.act-in-Exit.ensures.callers)

pub returns-in-Undo-clause-expected : goal.returns-in-Undo-clause-expected
returns-in-Undo-clause-expected g c =
    ok_map c.act-in-Undo.result c.act-in-Undo.ensures.expected
    (λ f. ap (λ k. handled c.args.routine.now (is_exception (kind_of c.args.condition.now.first.state)) c.args.resume c.args.number c.args.handler.now k (machine_of (g.S.Store.tables c.args.store.now) (g.S.Store.at c.args.store.now) c.args.run.now)) c.in-Undo.is
    ∙ ap (λ b. acting c.args.number None c.args.handler.now (undone (arrived c.args.routine.now b c.args.handler.now (machine_of (g.S.Store.tables c.args.store.now) (g.S.Store.at c.args.store.now) c.args.run.now)))) (sym (c.is_exception-undo.ensures ∙ ap is_exception c.kind.ensures))
    ∙ ap (λ m. acting c.args.number None c.args.handler.now (undone m)) c.arrive-in-Undo.ensures.expected
    ∙ ap (acting c.args.number None c.args.handler.now) c.take_back.ensures.expected
    ∙ f (g.S.Store.tables c.take_back.new.store) (g.S.Store.at c.take_back.new.store))

pub returns-in-Undo-clause-unwinds : goal.returns-in-Undo-clause-unwinds
returns-in-Undo-clause-unwinds g c =
    let n = nested_unwound (g.S.Store.holds c.args.store.now) (g.S.Store.at c.args.store.now) (g.S.Store.marks c.args.store.now) (g.S.Store.tables c.args.store.now) c.args.run.now (g.S.Store.holds c.arrive-in-Undo.new.store) (g.S.Store.at c.arrive-in-Undo.new.store) (g.S.Store.marks c.arrive-in-Undo.new.store) (g.S.Store.tables c.arrive-in-Undo.new.store) c.arrive-in-Undo.new.run c.requires.nested c.arrive-in-Undo.ensures.unwinds in
    unwinds_then (g.S.Store.holds c.args.store.now) (g.S.Store.at c.args.store.now) (g.S.Store.marks c.args.store.now) (g.S.Store.tables c.args.store.now) c.args.run.now (g.S.Store.holds c.arrive-in-Undo.new.store) (g.S.Store.at c.arrive-in-Undo.new.store) (g.S.Store.marks c.arrive-in-Undo.new.store) (g.S.Store.tables c.arrive-in-Undo.new.store) c.arrive-in-Undo.new.run (g.S.Store.holds c.take_back.new.store) (g.S.Store.at c.take_back.new.store) (g.S.Store.marks c.take_back.new.store) (g.S.Store.tables c.take_back.new.store) c.act-in-Undo.new.run c.arrive-in-Undo.ensures.unwinds
    (unwinds_then (g.S.Store.holds c.arrive-in-Undo.new.store) (g.S.Store.at c.arrive-in-Undo.new.store) (g.S.Store.marks c.arrive-in-Undo.new.store) (g.S.Store.tables c.arrive-in-Undo.new.store) c.arrive-in-Undo.new.run (g.S.Store.holds c.take_back.new.store) (g.S.Store.at c.take_back.new.store) (g.S.Store.marks c.take_back.new.store) (g.S.Store.tables c.take_back.new.store) c.arrive-in-Undo.new.run (g.S.Store.holds c.take_back.new.store) (g.S.Store.at c.take_back.new.store) (g.S.Store.marks c.take_back.new.store) (g.S.Store.tables c.take_back.new.store) c.act-in-Undo.new.run c.take_back.ensures.unwinds
    (unwinds_none (g.S.Store.holds c.take_back.new.store) (g.S.Store.at c.take_back.new.store) (g.S.Store.marks c.take_back.new.store) (g.S.Store.tables c.take_back.new.store) c.arrive-in-Undo.new.run c.act-in-Undo.new.run (nested_unwound (g.S.Store.holds c.arrive-in-Undo.new.store) (g.S.Store.at c.arrive-in-Undo.new.store) (g.S.Store.marks c.arrive-in-Undo.new.store) (g.S.Store.tables c.arrive-in-Undo.new.store) c.arrive-in-Undo.new.run (g.S.Store.holds c.take_back.new.store) (g.S.Store.at c.take_back.new.store) (g.S.Store.marks c.take_back.new.store) (g.S.Store.tables c.take_back.new.store) c.arrive-in-Undo.new.run n c.take_back.ensures.unwinds)
    c.act-in-Undo.ensures.marks c.act-in-Undo.ensures.bound c.act-in-Undo.ensures.base c.act-in-Undo.ensures.callers))
