-- Marks that a run opens.
use Rattle.std.proofs.Common.{◌≡◌, ℕ, ◌+◌, ◌<◌, ◌≤◌, List, [], ◌∷◌, ◌++◌, Some, reverse, ap, sym, subst, ◌∙◌, arith}
use Rattle.std.proofs.lemmas.List.{reverse-append}
use Rattle.psm_table.specs.Table.{Contents}
use Rattle.psm_store.specs.declared.store.Mark.{Mark}
use Rattle.psm_store.specs.Marks.{AnyMark, IsNewMark, IsOutside, Keeps}
use Rattle.psm_code.specs.Run.{with_frames}
use Rattle.psm_code.specs.State as code
use Rattle.psm_code.specs.Steps.{Got, change}
use Rattle.psm_unwind.specs.declared.run.Frame.{Frame}
use Rattle.psm_unwind.specs.declared.run.Frame.TheVariants.{Block}
use Rattle.psm_unwind.specs.declared.run.Run.{Run}
use Rattle.psm_unwind.specs.Marks.{AreDeepest, Each, MarksStand, Nested, Stays, marks_in, most_open, open_marks}
use Rattle.psm_unwind.specs.View.{frames_of}
use Rattle.psm_unwind.proofs.Views.{frames_stay}
use Rattle.psm_unwind.proofs.Nestings.{each_map, nested_by, nested_each}

-- all marks stay
pub all_stay : (holds : Mark → Type 0) (at : Mark → List Contents) (new : Mark → Type 0) (at_new : Mark → List Contents) (ms : List Mark) →
    Nested holds ms → Keeps AnyMark holds at new at_new → Each (Stays at new at_new) ms
all_stay holds at new at_new ms n k = each_map holds (Stays at new at_new) ms (λ m h. k m h tt) (nested_each holds ms n)

pub nested_still : (holds : Mark → Type 0) (at : Mark → List Contents) (new : Mark → Type 0) (at_new : Mark → List Contents) (ms : List Mark) →
    Nested holds ms → Keeps AnyMark holds at new at_new → Nested new ms
nested_still holds at new at_new ms n k = nested_by holds new ms (each_map (Stays at new at_new) new ms (λ m s. s.0) (all_stay holds at new at_new ms n k)) n

-- a mark that is opened is the innermost one
pub nested_new : (holds : Mark → Type 0) (at : Mark → List Contents) (new : Mark → Type 0) (at_new : Mark → List Contents) (ms : List Mark) (m : Mark) (count : ℕ) →
    Nested holds ms → Keeps AnyMark holds at new at_new → ((o : Mark) → holds o → o.depth < count) → m.depth ≡ count → ((o : Mark) → holds o → o.position ≤ m.position) → new m → Nested new (m ∷ ms)
nested_new holds at new at_new ms m count n k below e last h = (
  h,
  each_map holds (IsOutside m) ms (λ o p. (subst (λ x. o.depth < x) (sym e) (below o p), last o p)) (nested_each holds ms n),
  nested_still holds at new at_new ms n k,
)

-- the run has counted a mark that isn't open
pub stand_more : (holds : Mark → Type 0) (at : Mark → List Contents) (new : Mark → Type 0) (at_new : Mark → List Contents) (count count_new : ℕ) (r n : Run) →
    MarksStand holds count r → Keeps AnyMark holds at new at_new → count_new ≡ count → n.marks ≡ r.marks + 1 → n.base ≡ r.base → r.marks < most_open → open_marks n ≡ open_marks r → MarksStand new count_new n
stand_more holds at new at_new count count_new r n s k c b o l e = record {
  nested = subst (λ (x : List Mark). Nested new x) (sym e) (nested_still holds at new at_new (open_marks r) s.nested k);
  deepest = rw (o, e, c) s.deepest;
  counted = omega (arith, c, b, s.counted);
  most = omega (arith, b, l);
}

-- a frame has the mark that was opened
pub stand_new : (holds : Mark → Type 0) (at : Mark → List Contents) (new : Mark → Type 0) (at_new : Mark → List Contents) (count count_new : ℕ) (tables : List Contents) (r n : Run) (m : Mark) →
    MarksStand holds count r → Keeps AnyMark holds at new at_new → ((o : Mark) → holds o → o.depth < count) → IsNewMark count tables holds new at_new m →
    count_new ≡ count + 1 → n.marks ≡ r.marks + 1 → n.base ≡ r.base → r.marks < most_open → open_marks n ≡ m ∷ open_marks r → MarksStand new count_new n
stand_new holds at new at_new count count_new tables r n m s k below i c b o l e = record {
  nested = subst (λ (x : List Mark). Nested new x) (sym e) (nested_new holds at new at_new (open_marks r) m count s.nested k below i.deepest i.last i.held);
  deepest =
      let own : AreDeepest r.base (m ∷ open_marks r) count_new = (omega (arith, c, i.deepest), subst (λ x. AreDeepest r.base (open_marks r) x) (sym i.deepest) s.deepest) in
      rw (o, e) own;
  counted = omega (arith, c, b, s.counted);
  most = omega (arith, b, l);
}

-- a mark that was opened is closed again, and all others stay
pub keeps_closed : (holds : Mark → Type 0) (at : Mark → List Contents) (mid : Mark → Type 0) (at_mid : Mark → List Contents) (new : Mark → Type 0) (at_new : Mark → List Contents)
    (count : ℕ) (tables : List Contents) (n : Mark) → Keeps AnyMark holds at mid at_mid → ((o : Mark) → holds o → o.depth < count) → IsNewMark count tables holds mid at_mid n →
    Keeps (IsOutside n) mid at_mid new at_new → Keeps AnyMark holds at new at_new
keeps_closed holds at mid at_mid new at_new count tables n k below i l = λ m h a.
    let first = k m h tt in
    let second = l m first.0 (subst (λ x. m.depth < x) (sym i.deepest) (below m h), i.last m h) in
    (second.0, second.1 ∙ first.1)

-- a run that begins has no mark of its own
pub stand_first : (holds : Mark → Type 0) (count marks : ℕ) (r : Run) → open_marks r ≡ [] → r.base ≡ marks → r.marks ≡ marks → count ≡ marks → marks ≤ most_open → MarksStand holds count r
stand_first holds count marks r e b m c l = record {
  nested = subst (λ (x : List Mark). Nested holds x) (sym e) tt;
  deepest = subst (λ (x : List Mark). AreDeepest r.base x count) (sym e) (c ∙ sym b);
  counted = omega (arith, m, c);
  most = omega (arith, m, l);
}

pub marks_pushed : (k : ℕ) (m : Mark) (xs ys : List Frame) (outer : List Mark) → ys ≡ xs ++ Block k (Some m) ∷ [] → marks_in (reverse ys) ++ outer ≡ m ∷ marks_in (reverse xs) ++ outer
marks_pushed k m xs ys outer e = ap (λ fs. marks_in (reverse fs) ++ outer) e ∙ ap (λ fs. marks_in fs ++ outer) (reverse-append xs (Block k (Some m) ∷ []))

pub frames_pushed : (k : ℕ) (tables : List Contents) (at : Mark → List Contents) (new : Mark → Type 0) (at_new : Mark → List Contents) (xs ys : List Frame) (m : Mark) →
    ys ≡ xs ++ Block k (Some m) ∷ [] → at_new m ≡ tables → Each (Stays at new at_new) (marks_in (reverse xs)) → frames_of at_new (reverse ys) ≡ code.InBlock k (Some tables) ∷ frames_of at (reverse xs)
frames_pushed k tables at new at_new xs ys m e t s =
    ap (λ fs. frames_of at_new (reverse fs)) e
    ∙ ap (frames_of at_new) (reverse-append xs (Block k (Some m) ∷ []))
    ∙ ap (λ x. code.InBlock k (Some x) ∷ frames_of at_new (reverse xs)) t
    ∙ ap (λ fs. code.InBlock k (Some tables) ∷ fs) (frames_stay at new at_new (reverse xs) s)

pub entered : (m : code.Machine) (before fs : List code.Frame) (callers : List code.Activation) (ts : List Contents) → fs ≡ before → callers ≡ m.callers → ts ≡ m.tables →
    change (with_frames before) m ≡ record { given = Got tt; machine = record m { running = record m.running { frames = fs }; callers = callers; tables = ts } }
entered m before fs callers ts f l t =
    ap (λ (x : List code.Frame). record { given = Got tt; machine = record m { running = record m.running { frames = x } } }) (sym f)
    ∙ ap (λ (x : List code.Activation). record { given = Got tt; machine = record m { running = record m.running { frames = fs }; callers = x } }) (sym l)
    ∙ ap (λ (x : List Contents). record { given = Got tt; machine = record m { running = record m.running { frames = fs }; callers = callers; tables = x } }) (sym t)
