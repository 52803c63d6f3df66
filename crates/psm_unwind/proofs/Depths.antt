-- Marks that are the deepest of those open in a store, some of which are closed.
use Rattle.std.proofs.Common.{◌≡◌, ℕ, ◌+◌, ◌≤◌, Option, None, Some, List, [], ◌∷◌, ◌++◌, reverse, refl, ap, sym, subst, ◌∙◌, arith}
use Rattle.psm_store.specs.declared.store.Mark.{Mark}
use Rattle.psm_unwind.specs.declared.run.Frame.{Frame}
use Rattle.psm_unwind.specs.Marks.{AreDeepest, StayDeepest, marks_in, with_mark}
use Rattle.psm_unwind.proofs.Leavings.{marks_cons, reverse_pop}
use Rattle.psm_unwind.proofs.Nestings.{mark_or}

-- ---- inner and outer marks

deepest_split : (n : ℕ) (ms outer : List Mark) (count : ℕ) → AreDeepest n (ms ++ outer) count → (k : ℕ) × AreDeepest k ms count × AreDeepest n outer k
deepest_split n [] outer count d = (count, refl, d)
deepest_split n (m ∷ ms) outer count d =
    let r = deepest_split n ms outer m.depth d.1 in
    (r.0, (d.0, r.1), r.2)

deepest_join : (k n : ℕ) (ms outer : List Mark) (count : ℕ) → AreDeepest k ms count → AreDeepest n outer k → AreDeepest n (ms ++ outer) count
deepest_join k n [] outer count d e = subst (λ x. AreDeepest n outer x) (sym d) e
deepest_join k n (m ∷ ms) outer count d e = (d.0, deepest_join k n ms outer m.depth d.1 e)

-- ---- how many marks are open

deepest_most : (n : ℕ) (ms : List Mark) (count : ℕ) → AreDeepest n ms count → n ≤ count
deepest_most n [] count d = omega (arith, d)
deepest_most n (m ∷ ms) count d =
    let below : n ≤ m.depth = deepest_most n ms m.depth d.1 in
    omega (arith, below, d.0)

deepest_same : (n : ℕ) (ms : List Mark) (count other : ℕ) → AreDeepest n ms count → AreDeepest n ms other → count ≡ other
deepest_same n [] count other d e = d ∙ sym e
deepest_same n (m ∷ ms) count other d e = d.0 ∙ sym e.0

-- no more are open where only some are left
pub deepest_fewer : (n : ℕ) (gone left : List Mark) (count count_new : ℕ) → AreDeepest n (gone ++ left) count → AreDeepest n left count_new → count_new ≤ count
deepest_fewer n gone left count count_new d e =
    let r = deepest_split n gone left count d in
    omega (arith, deepest_most r.0 gone count r.1, deepest_same n left r.0 count_new r.2 e)

-- ---- marks that are closed

-- marks outside those stay
pub deepest_in : (ms left outer : List Mark) (count count_new : ℕ) → StayDeepest ms count left count_new → StayDeepest (ms ++ outer) count (left ++ outer) count_new
deepest_in ms left outer count count_new s = λ n d.
    let r = deepest_split n ms outer count d in
    deepest_join r.0 n left outer count_new (s r.0 r.1) r.2

-- a mark that is closed alone
pub deepest_closed : (o : Option Mark) (m : Mark) (count count_new : ℕ) → o ≡ Some m → count_new ≡ m.depth → StayDeepest (with_mark o []) count [] count_new
deepest_closed None m count count_new e c = cc
deepest_closed (Some n) m count count_new e c = λ k d. c ∙ sym (ap (λ x. (mark_or x m).depth) e) ∙ d.1

pub deepest_no_mark : (o : Option Mark) (count : ℕ) → o ≡ None → StayDeepest (with_mark o []) count [] count
deepest_no_mark None count e = λ n d. d
deepest_no_mark (Some m) count e = cc

-- the tables are put back to the innermost mark
pub deepest_back : (marks outer : List Mark) (m : Mark) (count count_new : ℕ) → marks ≡ m ∷ outer → count_new ≡ m.depth + 1 → StayDeepest marks count marks count_new
deepest_back marks outer m count count_new e c = λ n d.
    let whole : AreDeepest n (m ∷ outer) count = subst (λ (x : List Mark). AreDeepest n x count) e d in
    subst (λ (x : List Mark). AreDeepest n x count_new) (sym e) (c, whole.1)

-- the frames xs are those of before, of which f is left, so that ys are left
pub deepest_next : (marks : List Mark) (count now new : ℕ) (xs ys : List Frame) (f : Frame) → xs ≡ ys ++ f ∷ [] →
    StayDeepest marks count (marks_in (reverse xs)) now → StayDeepest (marks_in (f ∷ [])) now [] new → StayDeepest marks count (marks_in (reverse ys)) new
deepest_next marks count now new xs ys f e s t = λ n d.
    let is : marks_in (reverse xs) ≡ marks_in (f ∷ []) ++ marks_in (reverse ys) = ap marks_in (reverse_pop xs ys f e) ∙ marks_cons f (reverse ys) in
    deepest_in (marks_in (f ∷ [])) [] (marks_in (reverse ys)) now new t n (subst (λ (x : List Mark). AreDeepest n x now) is (s n d))
