use Rattle.std.proofs.Common.{None, ap, sym, ◌∙◌}
use Rattle.psm_cond.specs.Handlers.{choice}
use Rattle.psm_unwind.specs.Raising.{met_at}
use Rattle.psm_unwind.specs.View.{machine_of}
use Rattle.psm_unwind.proofs.Arriving.{meets_same}
use Rattle.psm_unwind.proofs.raising.meet.Goals as goal

pub returns-in-None-clause-expected : goal.returns-in-None-clause-expected
returns-in-None-clause-expected g c =
    let m = (machine_of (g.S.Store.tables c.args.store.now) (g.S.Store.at c.args.store.now) c.args.run.now) in
    meets_same (λ outside. met_at c.args.routine.now c.args.place.resume c.args.condition.now None outside m)
    (λ outside. met_at c.args.routine.now c.args.place.resume c.args.condition.now (choice c.args.routine.now.handlers c.args.place.context c.args.condition.now.first) outside m)
    c.meet_none.result (machine_of (g.S.Store.tables c.meet_none.new.store) (g.S.Store.at c.meet_none.new.store) c.meet_none.new.run)
    (λ outside. ap (λ k. met_at c.args.routine.now c.args.place.resume c.args.condition.now k outside m) (sym c.choose.ensures ∙ c.in-None.is)) c.meet_none.ensures.expected
