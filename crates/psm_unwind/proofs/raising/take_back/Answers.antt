use Rattle.std.proofs.Common.{List, true, reverse, refl, ap, sym, subst, ◌∙◌}
use Rattle.psm_code.specs.Raising.{found_first, put_back}
use Rattle.psm_unwind.specs.declared.run.Frame.{Frame}
use Rattle.psm_unwind.specs.Marks.{Leaves, Nested, StayDeepest, Unwinds, marks_in}
use Rattle.psm_unwind.specs.View.{frames_of, machine_of}
use Rattle.psm_unwind.proofs.Unwinding.{running_nested, unwinds_frames}
use Rattle.psm_unwind.proofs.Views.{machine_stays}
use Rattle.psm_unwind.proofs.raising.take_back.Goals as goal

pub restore-requires : goal.restore-requires
restore-requires g c =
    subst (λ (fs : List Frame). Nested (g.S.Store.holds c.args.store.now) (marks_in (reverse fs))) (sym c.as_slice.ensures.value) (running_nested (g.S.Store.holds c.args.store.now) c.args.run.now c.requires)

pub returns-clause-unwinds : goal.returns-clause-unwinds
returns-clause-unwinds g c =
    unwinds_frames (g.S.Store.holds c.args.store.now) (g.S.Store.at c.args.store.now) (g.S.Store.marks c.args.store.now) (g.S.Store.tables c.args.store.now) c.args.run.now (g.S.Store.holds c.restore.new.store) (g.S.Store.at c.restore.new.store) (g.S.Store.marks c.restore.new.store) (g.S.Store.tables c.restore.new.store) c.args.run.now c.requires
    (subst (λ (fs : List Frame). Leaves (g.S.Store.holds c.args.store.now) (g.S.Store.at c.args.store.now) (marks_in (reverse fs)) (g.S.Store.holds c.restore.new.store) (g.S.Store.at c.restore.new.store) (marks_in (reverse fs))) c.as_slice.ensures.value c.restore.ensures.leaves)
    (subst (λ (fs : List Frame). StayDeepest (marks_in (reverse fs)) (g.S.Store.marks c.args.store.now) (marks_in (reverse fs)) (g.S.Store.marks c.restore.new.store)) c.as_slice.ensures.value c.restore.ensures.deepest)
    c.restore.ensures.defs refl refl refl

pub returns-clause-expected : goal.returns-clause-expected
returns-clause-expected g c =
    let u : Unwinds (g.S.Store.holds c.args.store.now) (g.S.Store.at c.args.store.now) (g.S.Store.marks c.args.store.now) (g.S.Store.tables c.args.store.now) c.args.run.now (g.S.Store.holds c.restore.new.store) (g.S.Store.at c.restore.new.store) (g.S.Store.marks c.restore.new.store) (g.S.Store.tables c.restore.new.store) c.args.run.now = returns-clause-unwinds g c in
    ap (λ t. record (machine_of (g.S.Store.tables c.args.store.now) (g.S.Store.at c.args.store.now) c.args.run.now) { tables = t }) (ap (λ fs. put_back true (found_first (frames_of (g.S.Store.at c.args.store.now) (reverse fs))) (g.S.Store.tables c.args.store.now)) (sym c.as_slice.ensures.value) ∙ sym c.restore.ensures.tables)
    ∙ sym (machine_stays (g.S.Store.at c.args.store.now) (g.S.Store.holds c.restore.new.store) (g.S.Store.at c.restore.new.store) (g.S.Store.tables c.restore.new.store) c.args.run.now u.leaves.stay)
