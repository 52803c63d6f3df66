-- What frames leave after, as the definition of a raised condition says it.
use Rattle.std.proofs.Common.{◌≡◌, ℕ, Bool, true, false, not, List, [], ◌∷◌, ◌++◌, reverse, Option, Some, None, if◌then◌else◌, refl, ap, sym, subst, ◌∙◌}
use Rattle.std.proofs.lemmas.List.{reverse-append}
use Rattle.psm_table.specs.Cursors.{Cursor}
use Rattle.psm_table.specs.Table.{Contents}
use Rattle.psm_store.specs.declared.store.Mark.{Mark}
use Rattle.psm_code.specs.declared.code.RawRoutine.{RawRoutine}
use Rattle.psm_code.specs.Raising.{found_by, frame_left, frames_from, frames_inside, frames_left, is_block, put_back}
use Rattle.psm_code.specs.State.{Frame, InBlock, InAction, Machine}
use Rattle.psm_unwind.specs.declared.run.Frame.{Frame as OpenFrame}
use Rattle.psm_unwind.specs.declared.run.Frame.TheVariants.{Block, Action}
use Rattle.psm_unwind.specs.Leaving.{cursors_by, cursors_left, inside, is_at, is_innermost_inside, outward, tables_left}
use Rattle.psm_unwind.specs.Marks.{Each, Leaves, Nested, Stays, marks_in}
use Rattle.psm_unwind.specs.View.{frame_of, frames_of}
use Rattle.psm_unwind.proofs.Nestings.{each_left, leaves_in, leaves_then, nested_after, nested_left}

not_false : (b : Bool) → not b ≡ false → b ≡ true
not_false true e = refl
not_false false e = cc

none_put_back : (undo : Bool) (now : List Contents) → put_back undo None now ≡ now
none_put_back true now = refl
none_put_back false now = refl

-- a machine with other cursors and tables
abbrev pub with_both : List Cursor → List Contents → Machine → Machine
with_both cs ts m = record m { running = record m.running { cursors = cs }; tables = ts }

pub left_is : (r : RawRoutine) (undo : Bool) (frames : List Frame) (m : Machine) → frames_left r undo frames m ≡ with_both (cursors_left r frames m.running.cursors) (tables_left undo frames m.tables) m
left_is r undo [] m = refl
left_is r undo (InBlock k found ∷ frames) m = left_is r undo frames (frame_left r undo (InBlock k found) m)
left_is r undo (InAction h resume area ∷ frames) m =
    left_is r undo frames m ∙ ap (λ t. with_both (cursors_left r frames m.running.cursors) (tables_left undo frames t) m) (sym (none_put_back undo m.tables))

pub inside_all : (frames : List Frame) → inside None frames ≡ frames
inside_all [] = refl
inside_all (f ∷ frames) = ap (λ fs. f ∷ fs) (inside_all frames)

pub inside_block : (k : ℕ) (frames : List Frame) → inside (Some k) frames ≡ frames_inside k frames
inside_block k [] = refl
inside_block k (f ∷ frames) = ap (λ fs. if is_block k f then [] else f ∷ fs) (inside_block k frames)

pub outward_block : (k : ℕ) (frames : List Frame) → outward (Some k) frames ≡ frames_from k frames
outward_block k [] = refl
outward_block k (f ∷ frames) = ap (λ fs. if is_block k f then f ∷ frames else fs) (outward_block k frames)

pub outward_all : (frames : List Frame) → outward None frames ≡ []
outward_all [] = refl
outward_all (f ∷ frames) = outward_all frames

-- ---- one frame more

frame_cursors : (r : RawRoutine) (at at0 : Mark → List Contents) (f : OpenFrame) (cs : List Cursor) → cursors_by r (frame_of at f) cs ≡ cursors_by r (frame_of at0 f) cs
frame_cursors r at at0 (Block k found) cs = refl
frame_cursors r at at0 (Action h resume c rows) cs = refl

frame_found : (new : Mark → Type 0) (at at0 : Mark → List Contents) (f : OpenFrame) → Each (Stays at0 new at) (marks_in (f ∷ [])) → found_by (frame_of at f) ≡ found_by (frame_of at0 f)
frame_found new at at0 (Block k None) e = refl
frame_found new at at0 (Block k (Some m)) e = ap Some e.0.1
frame_found new at at0 (Action h resume c rows) e = refl

inside_step : (stop : Option ℕ) (f : Frame) (frames : List Frame) → is_at stop f ≡ false → inside stop (f ∷ frames) ≡ f ∷ inside stop frames
inside_step stop f frames e = ap (λ b. if b then [] else f ∷ inside stop frames) e

outward_step : (stop : Option ℕ) (f : Frame) (frames : List Frame) → is_at stop f ≡ false → outward stop (f ∷ frames) ≡ outward stop frames
outward_step stop f frames e = ap (λ b. if b then f ∷ frames else outward stop frames) e

pub inside_end : (stop : Option ℕ) (frames : List Frame) → is_innermost_inside stop frames ≡ false → inside stop frames ≡ []
inside_end stop [] e = refl
inside_end stop (f ∷ frames) e = ap (λ b. if b then [] else f ∷ inside stop frames) (not_false (is_at stop f) e)

pub outward_end : (stop : Option ℕ) (frames : List Frame) → is_innermost_inside stop frames ≡ false → outward stop frames ≡ frames
outward_end stop [] e = refl
outward_end stop (f ∷ frames) e = ap (λ b. if b then f ∷ frames else outward stop frames) (not_false (is_at stop f) e)

-- marks of a frame and of those outside
pub marks_cons : (f : OpenFrame) (frames : List OpenFrame) → marks_in (f ∷ frames) ≡ marks_in (f ∷ []) ++ marks_in frames
marks_cons (Block k None) frames = refl
marks_cons (Block k (Some m)) frames = refl
marks_cons (Action h resume c rows) frames = refl

pub reverse_pop : (xs ys : List OpenFrame) (f : OpenFrame) → xs ≡ ys ++ f ∷ [] → reverse xs ≡ f ∷ reverse ys
reverse_pop xs ys f e = ap reverse e ∙ reverse-append ys (f ∷ [])

-- the frames xs are those of before, of which f is left, so that ys are left
module _ (r : RawRoutine) (undo : Bool) (stop : Option ℕ) (at0 at : Mark → List Contents) (xs ys : List OpenFrame) (f : OpenFrame)
    (e : xs ≡ ys ++ f ∷ []) (i : is_at stop (frame_of at0 f) ≡ false) where
  view : frames_of at0 (reverse xs) ≡ frame_of at0 f ∷ frames_of at0 (reverse ys)
  view = ap (frames_of at0) (reverse_pop xs ys f e)

  pub outward_next : (before : List Frame) → outward stop (frames_of at0 (reverse xs)) ≡ before → outward stop (frames_of at0 (reverse ys)) ≡ before
  outward_next before h = sym (ap (outward stop) view ∙ outward_step stop (frame_of at0 f) (frames_of at0 (reverse ys)) i) ∙ h

  inside_next : inside stop (frames_of at0 (reverse xs)) ≡ frame_of at0 f ∷ inside stop (frames_of at0 (reverse ys))
  inside_next = ap (inside stop) view ∙ inside_step stop (frame_of at0 f) (frames_of at0 (reverse ys)) i

  pub cursors_next : (cs new before : List Cursor) → new ≡ cursors_by r (frame_of at f) cs → cursors_left r (inside stop (frames_of at0 (reverse xs))) cs ≡ before → cursors_left r (inside stop (frames_of at0 (reverse ys))) new ≡ before
  cursors_next cs new before n h =
      ap (cursors_left r (inside stop (frames_of at0 (reverse ys)))) (n ∙ frame_cursors r at at0 f cs)
      ∙ sym (ap (λ fs. cursors_left r fs cs) inside_next) ∙ h

  pub tables_next : (holds : Mark → Type 0) (ts new before : List Contents) → Each (Stays at0 holds at) (marks_in (f ∷ [])) → new ≡ put_back undo (found_by (frame_of at f)) ts
      → tables_left undo (inside stop (frames_of at0 (reverse xs))) ts ≡ before → tables_left undo (inside stop (frames_of at0 (reverse ys))) new ≡ before
  tables_next holds ts new before s n h =
      ap (tables_left undo (inside stop (frames_of at0 (reverse ys)))) (n ∙ ap (λ o. put_back undo o ts) (frame_found holds at at0 f s))
      ∙ sym (ap (λ fs. tables_left undo fs ts) inside_next) ∙ h

-- the same of the marks
module _ (h0 : Mark → Type 0) (at0 : Mark → List Contents) (marks : List Mark) (h1 : Mark → Type 0) (at1 : Mark → List Contents) (xs ys : List OpenFrame) (f : OpenFrame)
    (nested : Nested h0 marks) (e : xs ≡ ys ++ f ∷ []) (l : Leaves h0 at0 marks h1 at1 (marks_in (reverse xs))) where
  marks_now : marks_in (reverse xs) ≡ marks_in (f ∷ []) ++ marks_in (reverse ys)
  marks_now = ap marks_in (reverse_pop xs ys f e) ∙ marks_cons f (reverse ys)

  nested_now : Nested h1 (marks_in (f ∷ []) ++ marks_in (reverse ys))
  nested_now = subst (λ (x : List Mark). Nested h1 x) marks_now (nested_after h0 at0 marks h1 at1 (marks_in (reverse xs)) nested l)

  pub frame_nested : Nested h1 (marks_in (f ∷ []))
  frame_nested = nested_left h1 (marks_in (f ∷ [])) (marks_in (reverse ys)) nested_now

  pub frame_stays : Each (Stays at0 h1 at1) (marks_in (f ∷ []))
  frame_stays = each_left (Stays at0 h1 at1) (marks_in (f ∷ [])) (marks_in (reverse ys)) (subst (λ (x : List Mark). Each (Stays at0 h1 at1) x) marks_now l.stay)

  pub leaves_next : (h2 : Mark → Type 0) (at2 : Mark → List Contents) → Leaves h1 at1 (marks_in (f ∷ [])) h2 at2 [] → Leaves h0 at0 marks h2 at2 (marks_in (reverse ys))
  leaves_next h2 at2 s =
      leaves_then h0 at0 marks h1 at1 (marks_in (f ∷ []) ++ marks_in (reverse ys)) h2 at2 (marks_in (reverse ys))
      (subst (λ (x : List Mark). Leaves h0 at0 marks h1 at1 x) marks_now l)
      (leaves_in h1 at1 (marks_in (f ∷ [])) h2 at2 [] (marks_in (reverse ys)) nested_now s)
