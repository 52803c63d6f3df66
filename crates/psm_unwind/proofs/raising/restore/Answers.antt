use Rattle.std.proofs.Common.{reverse, ap, sym, ◌∙◌}
use Rattle.std.specs.Option.{option_copied}
use Rattle.psm_unwind.specs.Marks.{mark_in, marks_in}
use Rattle.psm_unwind.proofs.Depths.{deepest_back}
use Rattle.psm_unwind.proofs.Lasts.{last_marks, rest_of}
use Rattle.psm_unwind.proofs.Nestings.{leaves_back}
use Rattle.psm_unwind.proofs.raising.restore.Goals as goal

pub returns-in-Some-Block-default-Some-clause-leaves : goal.returns-in-Some-Block-default-Some-clause-leaves
returns-in-Some-Block-default-Some-clause-leaves g c =
    leaves_back (g.S.Store.holds c.args.store.now) (g.S.Store.at c.args.store.now) (g.S.Store.holds c.go_back.new.store) (g.S.Store.at c.go_back.new.store)
    (marks_in (reverse c.args.frames.now)) c.in-Some-Block-default-Some.mark (marks_in (rest_of (reverse c.args.frames.now)))
    (last_marks c.args.frames.now c.in-Some-Block-default-Some.field-0.now c.in-Some-Block-default-Some.mark
    (ap mark_in c.in-Some-Block-default-Some.field-0-is ∙ c.in-Some-Block-default-Some.field-0-1-is)
    (sym (ap option_copied c.in-Some-Block-default-Some.is) ∙ c.last.ensures.value))
    c.requires c.go_back.ensures.held c.go_back.ensures.stands c.go_back.ensures.keeps

pub returns-in-Some-Block-default-Some-clause-deepest : goal.returns-in-Some-Block-default-Some-clause-deepest
returns-in-Some-Block-default-Some-clause-deepest g c =
    deepest_back (marks_in (reverse c.args.frames.now)) (marks_in (rest_of (reverse c.args.frames.now))) c.in-Some-Block-default-Some.mark (g.S.Store.marks c.args.store.now) (g.S.Store.marks c.go_back.new.store)
    (last_marks c.args.frames.now c.in-Some-Block-default-Some.field-0.now c.in-Some-Block-default-Some.mark
    (ap mark_in c.in-Some-Block-default-Some.field-0-is ∙ c.in-Some-Block-default-Some.field-0-1-is)
    (sym (ap option_copied c.in-Some-Block-default-Some.is) ∙ c.last.ensures.value))
    c.go_back.ensures.marks
