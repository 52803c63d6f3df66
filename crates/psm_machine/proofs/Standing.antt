-- The marks of a run stand still.
use Rattle.std.proofs.Common.{ℕ, ◌<◌, List, ◌∷◌, ◌++◌, reverse, refl, ap, sym, subst, ◌∙◌, arith}
use Rattle.psm_table.specs.Table.{Contents}
use Rattle.psm_store.specs.declared.store.Mark.{Mark}
use Rattle.psm_store.specs.Marks.{AnyMark, IsNewMark, IsOutside, Keeps}
use Rattle.psm_unwind.specs.declared.run.Run.{Run}
use Rattle.psm_unwind.specs.Marks.{Encloses, Nested, SameFrames, Stays, Unwinds, marks_in, marks_of, open_marks}
use Rattle.psm_unwind.proofs.Nestings.{each_right}
use Rattle.psm_unwind.proofs.Unwinding.{stand_unwound}
use Rattle.psm_machine.specs.Successors.{SameMarks, StandStill}

pub marks_same : (r new : Run) → SameFrames r new → SameMarks r new
marks_same r new s = record {
  marks = ap (λ v. marks_in (reverse v.items) ++ marks_of (reverse new.callers.items)) s.frames ∙ ap (λ v. marks_in (reverse r.running.frames.items) ++ marks_of (reverse v.items)) s.callers;
  bound = s.bound;
  base = s.base;
}

-- where no mark is opened or closed
pub still_marks : (holds : Mark → Type 0) (at : Mark → List Contents) (count : ℕ) (r new : Run) → SameMarks r new → StandStill holds at count r holds at count new
still_marks holds at count r new s = record {
  stand = λ m. record {
    nested = subst (λ (x : List Mark). Nested holds x) (sym s.marks) m.nested;
    deepest = rw (s.base, s.marks) m.deepest;
    counted = omega (arith, s.bound, m.counted);
    most = omega (arith, s.bound, m.most);
  };
  outer = λ m h a. ((h, refl), subst (λ (x : List Mark). Encloses x m) (sym s.marks) a);
}

-- where the frames stay
pub still_same : (holds : Mark → Type 0) (at : Mark → List Contents) (count : ℕ) (r new : Run) → SameFrames r new → StandStill holds at count r holds at count new
still_same holds at count r new s = still_marks holds at count r new (marks_same r new s)

-- where frames are left
pub still_unwound : (h0 : Mark → Type 0) (at0 : Mark → List Contents) (count0 : ℕ) (tables0 : List Contents) (r : Run) (h1 : Mark → Type 0) (at1 : Mark → List Contents) (count1 : ℕ) (tables1 : List Contents) (new : Run) →
    Unwinds h0 at0 count0 tables0 r h1 at1 count1 tables1 new → StandStill h0 at0 count0 r h1 at1 count1 new
still_unwound h0 at0 count0 tables0 r h1 at1 count1 tables1 new u = record {
  stand = λ s. stand_unwound h0 at0 count0 tables0 r h1 at1 count1 tables1 new s u;
  outer = λ m h a. (u.leaves.keeps m h a, each_right (λ x. IsOutside x m) u.leaves.gone (open_marks new) (subst (λ (x : List Mark). Encloses x m) u.leaves.split a));
}

-- where the run goes on from one to the other
pub still_then : (h0 : Mark → Type 0) (at0 : Mark → List Contents) (count0 : ℕ) (r0 : Run) (h1 : Mark → Type 0) (at1 : Mark → List Contents) (count1 : ℕ) (r1 : Run) (h2 : Mark → Type 0) (at2 : Mark → List Contents) (count2 : ℕ) (r2 : Run) →
    StandStill h0 at0 count0 r0 h1 at1 count1 r1 → StandStill h1 at1 count1 r1 h2 at2 count2 r2 → StandStill h0 at0 count0 r0 h2 at2 count2 r2
still_then h0 at0 count0 r0 h1 at1 count1 r1 h2 at2 count2 r2 s t = record {
  stand = λ m. t.stand (s.stand m);
  outer = λ m h a.
      let first = s.outer m h a in
      let second = t.outer m first.0.0 first.1 in
      ((second.0.0, second.0.1 ∙ first.0.1), second.1);
}

-- a mark that is opened is inside all others
pub outer_new : (holds : Mark → Type 0) (at : Mark → List Contents) (new : Mark → Type 0) (at_new : Mark → List Contents) (count : ℕ) (tables : List Contents) (ms : List Mark) (n : Mark) →
    Keeps AnyMark holds at new at_new → ((o : Mark) → holds o → o.depth < count) → IsNewMark count tables holds new at_new n → (m : Mark) → holds m → Encloses ms m → Stays at new at_new m × Encloses (n ∷ ms) m
outer_new holds at new at_new count tables ms n k below i m h a = (k m h tt, ((subst (λ x. m.depth < x) (sym i.deepest) (below m h), i.last m h), a))
