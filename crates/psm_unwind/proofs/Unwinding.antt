-- Frames of a run that are left, one step after another.
use Rattle.std.proofs.Common.{◌≡◌, ℕ, List, [], ◌∷◌, ◌++◌, drop, reverse, refl, ap, sym, subst, ◌∙◌, arith, append_assoc, append-nil}
use Rattle.std.proofs.lemmas.List.{reverse-append}
use Rattle.std.specs.declared.alloc.Global.{Global}
use Rattle.std.specs.declared.vec.Vec.{Vec}
use Rattle.psm_table.specs.Table.{Contents}
use Rattle.psm_operands.specs.Stacked.{Stacked, first_of}
use Rattle.psm_store.specs.declared.store.Mark.{Mark}
use Rattle.psm_store.specs.Marks.{defs_of}
use Rattle.psm_unwind.specs.declared.run.Activation.{Activation}
use Rattle.psm_unwind.specs.declared.run.Run.{Run}
use Rattle.psm_unwind.specs.Marks.{AreDeepest, Each, Leaves, MarksStand, Nested, SameFrames, StayDeepest, Stays, Unwinds, marks_in, marks_of, open_marks}
use Rattle.psm_unwind.specs.View.{activation_of, callers_of}
use Rattle.psm_unwind.proofs.Views.{callers_stay}
use Rattle.psm_unwind.proofs.Depths.{deepest_fewer, deepest_in}
use Rattle.psm_unwind.proofs.Nestings.{each_right, leaves_in, leaves_none, leaves_then, nested_after, nested_left}

-- nothing of the store has changed, and no frame with a mark
pub unwinds_none : (holds : Mark → Type 0) (at : Mark → List Contents) (count : ℕ) (tables : List Contents) (r new : Run) →
    Nested holds (open_marks r) → open_marks new ≡ open_marks r → new.marks ≡ r.marks → new.base ≡ r.base → new.callers ≡ r.callers → Unwinds holds at count tables r holds at count tables new
unwinds_none holds at count tables r new n e b s c = record {
  leaves = subst (λ (x : List Mark). Leaves holds at (open_marks r) holds at x) (sym e) (leaves_none holds at (open_marks r) n);
  deepest = subst (λ (x : List Mark). StayDeepest (open_marks r) count x count) (sym e) (λ n d. d);
  defs = refl;
  bound = b;
  base = s;
  callers = ([], sym (append-nil new.callers.items ∙ ap (λ v. v.items) c));
}

pub unwinds_same : (holds : Mark → Type 0) (at : Mark → List Contents) (count : ℕ) (tables : List Contents) (r new : Run) →
    Nested holds (open_marks r) → SameFrames r new → Unwinds holds at count tables r holds at count tables new
unwinds_same holds at count tables r new n s =
    let marks : open_marks new ≡ open_marks r =
    ap (λ v. marks_in (reverse v.items) ++ marks_of (reverse new.callers.items)) s.frames ∙ ap (λ v. marks_in (reverse r.running.frames.items) ++ marks_of (reverse v.items)) s.callers in
    unwinds_none holds at count tables r new n marks s.bound s.base s.callers

-- only the store and the frames of the activation that runs have changed
pub unwinds_frames : (h0 : Mark → Type 0) (at0 : Mark → List Contents) (count0 : ℕ) (tables0 : List Contents) (r : Run)
    (h1 : Mark → Type 0) (at1 : Mark → List Contents) (count1 : ℕ) (tables1 : List Contents) (new : Run) →
    Nested h0 (open_marks r) → Leaves h0 at0 (marks_in (reverse r.running.frames.items)) h1 at1 (marks_in (reverse new.running.frames.items)) →
    StayDeepest (marks_in (reverse r.running.frames.items)) count0 (marks_in (reverse new.running.frames.items)) count1 →
    defs_of tables1 ≡ defs_of tables0 → new.marks ≡ r.marks → new.base ≡ r.base → new.callers ≡ r.callers → Unwinds h0 at0 count0 tables0 r h1 at1 count1 tables1 new
unwinds_frames h0 at0 count0 tables0 r h1 at1 count1 tables1 new n l f d b s c = record {
  leaves =
      let outer : List Mark = marks_of (reverse r.callers.items) in
      let whole : Leaves h0 at0 (open_marks r) h1 at1 (marks_in (reverse new.running.frames.items) ++ outer) =
      leaves_in h0 at0 (marks_in (reverse r.running.frames.items)) h1 at1 (marks_in (reverse new.running.frames.items)) outer n l in
      let same : marks_in (reverse new.running.frames.items) ++ outer ≡ open_marks new = ap (λ v. marks_in (reverse new.running.frames.items) ++ marks_of (reverse v.items)) (sym c) in
      subst (λ (x : List Mark). Leaves h0 at0 (open_marks r) h1 at1 x) same whole;
  deepest =
      let outer : List Mark = marks_of (reverse r.callers.items) in
      let same : marks_in (reverse new.running.frames.items) ++ outer ≡ open_marks new = ap (λ v. marks_in (reverse new.running.frames.items) ++ marks_of (reverse v.items)) (sym c) in
      subst (λ (x : List Mark). StayDeepest (open_marks r) count0 x count1) same
      (deepest_in (marks_in (reverse r.running.frames.items)) (marks_in (reverse new.running.frames.items)) outer count0 count1 f);
  defs = d;
  bound = b;
  base = s;
  callers = ([], sym (append-nil new.callers.items ∙ ap (λ v. v.items) c));
}

pub unwinds_then : (h0 : Mark → Type 0) (at0 : Mark → List Contents) (count0 : ℕ) (tables0 : List Contents) (r0 : Run)
    (h1 : Mark → Type 0) (at1 : Mark → List Contents) (count1 : ℕ) (tables1 : List Contents) (r1 : Run)
    (h2 : Mark → Type 0) (at2 : Mark → List Contents) (count2 : ℕ) (tables2 : List Contents) (r2 : Run) →
    Unwinds h0 at0 count0 tables0 r0 h1 at1 count1 tables1 r1 → Unwinds h1 at1 count1 tables1 r1 h2 at2 count2 tables2 r2 → Unwinds h0 at0 count0 tables0 r0 h2 at2 count2 tables2 r2
unwinds_then h0 at0 count0 tables0 r0 h1 at1 count1 tables1 r1 h2 at2 count2 tables2 r2 u v = record {
  leaves = leaves_then h0 at0 (open_marks r0) h1 at1 (open_marks r1) h2 at2 (open_marks r2) u.leaves v.leaves;
  deepest = λ n d. v.deepest n (u.deepest n d);
  defs = v.defs ∙ u.defs;
  bound = v.bound ∙ u.bound;
  base = v.base ∙ u.base;
  callers = (v.callers.0 ++ u.callers.0, u.callers.1 ∙ ap (λ x. x ++ u.callers.0) v.callers.1 ∙ append_assoc r2.callers.items v.callers.0 u.callers.0);
}

pub nested_unwound : (h0 : Mark → Type 0) (at0 : Mark → List Contents) (count0 : ℕ) (tables0 : List Contents) (r : Run)
    (h1 : Mark → Type 0) (at1 : Mark → List Contents) (count1 : ℕ) (tables1 : List Contents) (new : Run) →
    Nested h0 (open_marks r) → Unwinds h0 at0 count0 tables0 r h1 at1 count1 tables1 new → Nested h1 (open_marks new)
nested_unwound h0 at0 count0 tables0 r h1 at1 count1 tables1 new n u = nested_after h0 at0 (open_marks r) h1 at1 (open_marks new) n u.leaves

pub stand_unwound : (h0 : Mark → Type 0) (at0 : Mark → List Contents) (count0 : ℕ) (tables0 : List Contents) (r : Run)
    (h1 : Mark → Type 0) (at1 : Mark → List Contents) (count1 : ℕ) (tables1 : List Contents) (new : Run) →
    MarksStand h0 count0 r → Unwinds h0 at0 count0 tables0 r h1 at1 count1 tables1 new → MarksStand h1 count1 new
stand_unwound h0 at0 count0 tables0 r h1 at1 count1 tables1 new s u = record {
  nested = nested_unwound h0 at0 count0 tables0 r h1 at1 count1 tables1 new s.nested u;
  deepest = subst (λ b. AreDeepest b (open_marks new) count1) (sym u.base) (u.deepest r.base s.deepest);
  counted =
      let before : AreDeepest r.base (u.leaves.gone ++ open_marks new) count0 = subst (λ (x : List Mark). AreDeepest r.base x count0) u.leaves.split s.deepest in
      omega (arith, deepest_fewer r.base u.leaves.gone (open_marks new) count0 count1 before (u.deepest r.base s.deepest), u.bound, s.counted);
  most = omega (arith, u.bound, s.most);
}

-- the marks of the frames of the activation that runs
pub running_nested : (holds : Mark → Type 0) (r : Run) → Nested holds (open_marks r) → Nested holds (marks_in (reverse r.running.frames.items))
running_nested holds r n = nested_left holds (marks_in (reverse r.running.frames.items)) (marks_of (reverse r.callers.items)) n

-- a caller goes on where the activation that ran has no frame left
pub returned_marks : (running caller : Activation) (before after : List Activation) → running.frames.items ≡ [] → before ≡ after ++ caller ∷ [] →
    marks_in (reverse running.frames.items) ++ marks_of (reverse before) ≡ marks_in (reverse caller.frames.items) ++ marks_of (reverse after)
returned_marks running caller before after e f =
    ap (λ fs. marks_in (reverse fs) ++ marks_of (reverse before)) e ∙ ap (λ before. marks_of (reverse before)) f ∙ ap marks_of (reverse-append after (caller ∷ []))

-- the marks of the callers stay where only frames of the activation that runs are left
pub outer_stay : (h0 : Mark → Type 0) (at0 : Mark → List Contents) (r : Run) (h1 : Mark → Type 0) (at1 : Mark → List Contents) (left : List Mark) → Nested h0 (open_marks r) →
    Leaves h0 at0 (marks_in (reverse r.running.frames.items)) h1 at1 left → Each (Stays at0 h1 at1) (marks_of (reverse r.callers.items))
outer_stay h0 at0 r h1 at1 left n l =
    let outer : List Mark = marks_of (reverse r.callers.items) in
    let whole : Leaves h0 at0 (open_marks r) h1 at1 (left ++ outer) = leaves_in h0 at0 (marks_in (reverse r.running.frames.items)) h1 at1 left outer n l in
    each_right (Stays at0 h1 at1) left outer whole.stay

-- a caller goes on where the activation that ran has no frame left
pub unwinds_returned : (holds : Mark → Type 0) (at : Mark → List Contents) (count : ℕ) (tables : List Contents) (r : Run) (caller : Activation) (rest : Vec Activation Global) (operands : Stacked) →
    Nested holds (open_marks r) → r.running.frames.items ≡ [] → r.callers.items ≡ rest.items ++ caller ∷ [] →
    Unwinds holds at count tables r holds at count tables (record r { running = caller; callers = rest; operands = operands })
unwinds_returned holds at count tables r caller rest operands n e f = record {
  leaves = subst (λ (x : List Mark). Leaves holds at (open_marks r) holds at x) (returned_marks r.running caller r.callers.items rest.items e f) (leaves_none holds at (open_marks r) n);
  deepest = subst (λ (x : List Mark). StayDeepest (open_marks r) count x count) (returned_marks r.running caller r.callers.items rest.items e f) (λ n d. d);
  defs = refl;
  bound = refl;
  base = refl;
  callers = (caller ∷ [], f);
}

pub unwinds_items : (holds : Mark → Type 0) (at : Mark → List Contents) (count : ℕ) (tables : List Contents) (r : Run) (rest : Vec Activation Global) →
    Nested holds (open_marks r) → r.callers.items ≡ rest.items ++ [] → Unwinds holds at count tables r holds at count tables (record r { callers = rest })
unwinds_items holds at count tables r rest n e = record {
  leaves = subst (λ (x : List Mark). Leaves holds at (open_marks r) holds at x) (ap (λ xs. marks_in (reverse r.running.frames.items) ++ marks_of (reverse xs)) (e ∙ append-nil rest.items)) (leaves_none holds at (open_marks r) n);
  deepest = subst (λ (x : List Mark). StayDeepest (open_marks r) count x count) (ap (λ xs. marks_in (reverse r.running.frames.items) ++ marks_of (reverse xs)) (e ∙ append-nil rest.items)) (λ n d. d);
  defs = refl;
  bound = refl;
  base = refl;
  callers = ([], e);
}

-- the callers as they were seen before frames were left, the innermost of which goes on
pub callers_now : (h0 : Mark → Type 0) (at0 : Mark → List Contents) (count0 : ℕ) (tables0 : List Contents) (r : Run)
    (h1 : Mark → Type 0) (at1 : Mark → List Contents) (count1 : ℕ) (tables1 : List Contents) (new : Run) (rest : List Activation) (caller : Activation) →
    Unwinds h0 at0 count0 tables0 r h1 at1 count1 tables1 new → new.callers ≡ r.callers → new.operands.callers ≡ r.operands.callers → new.callers.items ≡ rest ++ caller ∷ [] →
    callers_of at0 r.operands.callers (reverse r.callers.items) ≡ activation_of at1 (first_of new.operands.callers) caller ∷ callers_of at1 (drop 1 new.operands.callers) (reverse rest)
callers_now h0 at0 count0 tables0 r h1 at1 count1 tables1 new rest caller u c o e =
    ap (λ v. callers_of at0 r.operands.callers (reverse v.items)) (sym c)
    ∙ ap (λ stacks. callers_of at0 stacks (reverse new.callers.items)) (sym o)
    ∙ sym (callers_stay at0 h1 at1 new.operands.callers (reverse new.callers.items) (each_right (Stays at0 h1 at1) (marks_in (reverse new.running.frames.items)) (marks_of (reverse new.callers.items)) u.leaves.stay))
    ∙ ap (λ xs. callers_of at1 new.operands.callers (reverse xs)) e
    ∙ ap (callers_of at1 new.operands.callers) (reverse-append rest (caller ∷ []))
