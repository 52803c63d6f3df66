use Rattle.std.proofs.Common.{ap, sym, subst, ◌∙◌}
use Rattle.std.specs.Option.{option_copied}
use Rattle.psm_code.specs.Plans.{done}
use Rattle.psm_unwind.specs.View.{machine_of}
use Rattle.psm_unwind.proofs.Views.{machine_stays}
use Rattle.psm_machine.specs.ActResults.{Evaluates}
use Rattle.psm_machine.proofs.Staying.{still_stand, still_stay}
use Rattle.psm_machine.proofs.plans.change.Goals as goal

pub returns-in-Some-clause-expected : goal.returns-in-Some-clause-expected
returns-in-Some-clause-expected g c =
    let old = g.S.Store.tables c.args.store.now in
    let at = g.S.Store.at c.args.store.now in
    let new = g.S.Store.tables c.carry_out.new.store in
    let holds_new = g.S.Store.holds c.carry_out.new.store in
    let at_new = g.S.Store.at c.carry_out.new.store in
    let stay = still_stay (g.S.Store.holds c.args.store.now) at holds_new at_new c.carry_out.ensures.keeps c.args.run.now c.carry_out.new.run c.carry_out.ensures.same c.requires.stand.nested in
    rw (sym c.plan_at.ensures ∙ ap option_copied c.in-Some.is)
    (subst (λ now. Evaluates (done c.args.code.now c.args.routine.now c.in-Some.plan.now (machine_of old at c.args.run.now)) c.carry_out.result now)
    (sym (machine_stays at holds_new at_new new c.carry_out.new.run stay)) (c.carry_out.ensures.expected at))

pub returns-in-Some-clause-stand : goal.returns-in-Some-clause-stand
returns-in-Some-clause-stand g c =
    still_stand (g.S.Store.holds c.args.store.now) (g.S.Store.at c.args.store.now) (g.S.Store.holds c.carry_out.new.store) (g.S.Store.at c.carry_out.new.store) c.carry_out.ensures.keeps c.args.run.now c.carry_out.new.run c.carry_out.ensures.same
    (g.S.Store.marks c.args.store.now) (g.S.Store.marks c.carry_out.new.store) c.carry_out.ensures.marks c.requires.stand
