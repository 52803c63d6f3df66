-- The marks of a run whose frames stay.
use Rattle.std.proofs.Common.{◌≡◌, ℕ, List, ◌++◌, reverse, ap, sym, subst, ◌∙◌, arith}
use Rattle.psm_table.specs.Table.{Contents}
use Rattle.psm_store.specs.declared.store.Mark.{Mark}
use Rattle.psm_store.specs.Marks.{AnyMark, Keeps}
use Rattle.psm_unwind.specs.declared.run.Run.{Run}
use Rattle.psm_unwind.specs.Marks.{Each, MarksStand, Nested, SameFrames, Stays, marks_in, marks_of, open_marks}
use Rattle.psm_machine.proofs.Marking.{all_stay, nested_still}

same_marks : (r n : Run) → SameFrames r n → open_marks n ≡ open_marks r
same_marks r n s = ap (λ fs. marks_in (reverse fs.items) ++ marks_of (reverse n.callers.items)) s.frames ∙ ap (λ cs. marks_in (reverse r.running.frames.items) ++ marks_of (reverse cs.items)) s.callers

module _ (holds : Mark → Type 0) (at : Mark → List Contents) (new : Mark → Type 0) (at_new : Mark → List Contents) (k : Keeps AnyMark holds at new at_new) (r n : Run) (s : SameFrames r n) where
  pub still_stay : Nested holds (open_marks r) → Each (Stays at new at_new) (open_marks n)
  still_stay h = subst (λ (ms : List Mark). Each (Stays at new at_new) ms) (sym (same_marks r n s)) (all_stay holds at new at_new (open_marks r) h k)

  pub still_stand : (count count_new : ℕ) → count_new ≡ count → MarksStand holds count r → MarksStand new count_new n
  still_stand count count_new c h = record {
    nested = subst (λ (ms : List Mark). Nested new ms) (sym (same_marks r n s)) (nested_still holds at new at_new (open_marks r) h.nested k);
    deepest = rw (s.base, same_marks r n s, c) h.deepest;
    counted = omega (arith, c, s.bound, h.counted);
    most = omega (arith, s.bound, h.most);
  }
