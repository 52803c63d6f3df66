use Rattle.std.proofs.Common.{[], ◌∷◌, ap, sym, subst, ◌∙◌}
use Rattle.psm_unwind.specs.Marks.{Leaves, StayDeepest, marks_in, mark_in}
use Rattle.psm_unwind.proofs.Depths.{deepest_closed, deepest_no_mark}
use Rattle.psm_unwind.proofs.Nestings.{leaves_mark, leaves_no_mark}
use Rattle.psm_unwind.proofs.leaving.leave_frame.Goals.{in-Block+in-Some, in-Block+in_default-found, in_default}
use Rattle.psm_unwind.proofs.leaving.leave_frame.Goals as goal

pub returns-clause-leaves : goal.returns-clause-leaves
returns-clause-leaves g c =
    let before = g.S.Store.holds c.args.store.now in
    let at = g.S.Store.at c.args.store.now in
    elim c.match-frame.branch [
      | in-Block+in-Some w ↦
          subst (λ st. Leaves before at (marks_in (c.args.frame ∷ [])) (g.S.Store.holds st) (g.S.Store.at st) []) (sym w.store-is)
          (leaves_mark before at (g.S.Store.holds w.let_go.new.store) (g.S.Store.at w.let_go.new.store) (mark_in c.args.frame) w.in-Some.mark (ap mark_in w.in-Block.is ∙ w.in-Some.is) w.let_go.ensures.keeps)
      | in-Block+in_default-found w ↦
          subst (λ st. Leaves before at (marks_in (c.args.frame ∷ [])) (g.S.Store.holds st) (g.S.Store.at st) []) (sym w.store-is)
          (leaves_no_mark before at (mark_in c.args.frame) (ap mark_in w.in-Block.is ∙ w.in_default-found.is))
      | in_default w ↦
          subst (λ st. Leaves before at (marks_in (c.args.frame ∷ [])) (g.S.Store.holds st) (g.S.Store.at st) []) (sym w.store-is)
          (leaves_no_mark before at (mark_in c.args.frame) (ap mark_in w.in_default.is))
    ]

pub returns-clause-deepest : goal.returns-clause-deepest
returns-clause-deepest g c =
    let before = g.S.Store.marks c.args.store.now in
    elim c.match-frame.branch [
      | in-Block+in-Some w ↦
          subst (λ st. StayDeepest (marks_in (c.args.frame ∷ [])) before [] (g.S.Store.marks st)) (sym w.store-is)
          (deepest_closed (mark_in c.args.frame) w.in-Some.mark before (g.S.Store.marks w.let_go.new.store) (ap mark_in w.in-Block.is ∙ w.in-Some.is) w.let_go.ensures.closed)
      | in-Block+in_default-found w ↦
          subst (λ st. StayDeepest (marks_in (c.args.frame ∷ [])) before [] (g.S.Store.marks st)) (sym w.store-is)
          (deepest_no_mark (mark_in c.args.frame) before (ap mark_in w.in-Block.is ∙ w.in_default-found.is))
      | in_default w ↦
          subst (λ st. StayDeepest (marks_in (c.args.frame ∷ [])) before [] (g.S.Store.marks st)) (sym w.store-is)
          (deepest_no_mark (mark_in c.args.frame) before (ap mark_in w.in_default.is))
    ]
