-- The marks that blocks hold in a store.
use Rattle.std.specs.Prelude.{◌≡◌, ℕ, ◌+◌, ◌≤◌, ◌^◌, List, [], ◌∷◌, ◌++◌, reverse, Option, Some, None}
use Rattle.psm_table.specs.Table.{Contents}
use Rattle.psm_store.specs.declared.store.Mark.{Mark}
use Rattle.psm_store.specs.Marks.{IsOutside, defs_of}
use Rattle.psm_unwind.specs.declared.run.Activation.{Activation}
use Rattle.psm_unwind.specs.declared.run.Frame.{Frame}
use Rattle.psm_unwind.specs.declared.run.Frame.TheVariants.{Block, Action}
use Rattle.psm_unwind.specs.declared.run.Run.{Run}

-- ---- the marks of frames, the innermost first

abbrev pub with_mark : Option Mark → List Mark → List Mark
with_mark None marks = marks
with_mark (Some m) marks = m ∷ marks

abbrev pub mark_in : Frame → Option Mark
mark_in (Block k found) = found
mark_in (Action h resume c rows) = None

abbrev pub marks_in : List Frame → List Mark
marks_in [] = []
marks_in (f ∷ frames) = with_mark (mark_in f) (marks_in frames)

abbrev pub marks_of : List Activation → List Mark
marks_of [] = []
marks_of (a ∷ activations) = marks_in (reverse a.frames.items) ++ marks_of activations

-- all marks that blocks of a run hold
abbrev pub open_marks : Run → List Mark
open_marks r = marks_in (reverse r.running.frames.items) ++ marks_of (reverse r.callers.items)

-- ---- how they stand to one another

-- each of some things
abbrev pub Each : {A : Type 0} → (A → Type 0) → List A → Type 0
Each P [] = Unit {0}
Each P (x ∷ xs) = P x × Each P xs

-- a mark is outside each of some
abbrev pub Encloses : List Mark → Mark → Type 0
Encloses marks outer = Each (λ m. IsOutside m outer) marks

-- the marks are held, and each is outside those before it
abbrev pub Nested : (Mark → Type 0) → List Mark → Type 0
Nested holds [] = Unit {0}
Nested holds (m ∷ marks) = holds m × Each (IsOutside m) marks × Nested holds marks

-- the marks, innermost first, are the deepest of the open ones, one at each depth; below them n marks are open
abbrev pub AreDeepest : ℕ → List Mark → ℕ → Type 0
AreDeepest n [] count = count ≡ n
AreDeepest n (m ∷ marks) count = (count ≡ m.depth + 1) × AreDeepest n marks m.depth

-- n marks are open in a store whose run opens another one, at most
abbrev pub most_open : ℕ
most_open = 2 ^ 99

-- the marks of a run stand: they are nested, the store has no open mark beside them but those that were open when the run began, and
-- it has no more than the run says
pub record MarksStand (holds : Mark → Type 0) (count : ℕ) (r : Run) : Type 0 where
  pub nested : Nested holds (open_marks r)
  pub deepest : AreDeepest r.base (open_marks r) count
  pub counted : count ≤ r.marks
  pub most : r.marks ≤ most_open

-- ---- marks that are let go

-- a mark stays: it is held, and stands for the same tables
abbrev pub Stays : (Mark → List Contents) → (Mark → Type 0) → (Mark → List Contents) → Mark → Type 0
Stays at holds_new at_new m = holds_new m × (at_new m ≡ at m)

-- some of the innermost marks are gone; the others stay, and so do those that are outside all
pub record Leaves (holds : Mark → Type 0) (at : Mark → List Contents) (marks : List Mark) (holds_new : Mark → Type 0) (at_new : Mark → List Contents) (left : List Mark) : Type 0 where
  pub gone : List Mark
  pub split : marks ≡ gone ++ left
  pub stay : Each (Stays at holds_new at_new) left
  pub keeps : (m : Mark) → holds m → Encloses marks m → Stays at holds_new at_new m

-- those that are left are the deepest of the open ones, if the marks were, whatever is open below them
abbrev pub StayDeepest : List Mark → ℕ → List Mark → ℕ → Type 0
StayDeepest marks count left count_new = (n : ℕ) → AreDeepest n marks count → AreDeepest n left count_new

-- what a run and its store come to where frames are left: no mark is new, those of the frames are closed, the definitions of the tables
-- stay, and of the callers only inner ones are gone
pub record Unwinds (holds : Mark → Type 0) (at : Mark → List Contents) (count : ℕ) (tables : List Contents) (r : Run)
    (holds_new : Mark → Type 0) (at_new : Mark → List Contents) (count_new : ℕ) (tables_new : List Contents) (new : Run) : Type 0 where
  pub leaves : Leaves holds at (open_marks r) holds_new at_new (open_marks new)
  pub deepest : StayDeepest (open_marks r) count (open_marks new) count_new
  pub defs : defs_of tables_new ≡ defs_of tables
  pub bound : new.marks ≡ r.marks
  pub base : new.base ≡ r.base
  pub callers : (gone : List Activation) × (r.callers.items ≡ new.callers.items ++ gone)

-- a run of which other frames and callers don't change
pub record SameFrames (r new : Run) : Type 0 where
  pub frames : new.running.frames ≡ r.running.frames
  pub callers : new.callers ≡ r.callers
  pub bound : new.marks ≡ r.marks
  pub base : new.base ≡ r.base
