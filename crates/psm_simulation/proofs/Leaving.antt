-- What is left where a condition is raised, and the blocks that handlers are found in.
use Rattle.std.proofs.Common.{◌≡◌, inl, inr, ℕ, Bool, true, false, List, [], ◌∷◌, map, refl, ap, sym, ◌∙◌, subst, Option, Some, if◌then◌else◌}
use Rattle.psm_cond.specs.declared.handlers.Block.{Block}
use Rattle.psm_simulation.proofs.Runs.{nat_eq-same}
use Rattle.psm_table.specs.Cursors.{Cursor}
use Rattle.psm_table.specs.Table.{Contents}
use Rattle.psm_resolved.specs.declared.file.ResolvedFile.{ResolvedFile}
use Rattle.psm_resolved.specs.declared.file.ResolvedRoutine.{ResolvedRoutine}
use Rattle.psm_code.specs.declared.code.RawCode.{RawCode}
use Rattle.psm_code.specs.declared.code.RawRoutine.{RawRoutine}
use Rattle.psm_code.specs.Parts.{block_at}
use Rattle.psm_code.specs.Raising.{block_left, cursors_of, frames_from, frames_inside, frames_left, put_back}
use Rattle.psm_code.specs.State.{Machine, closed_cursors, with_running}
use Rattle.psm_simulation.specs.Env.{Visible}
use Rattle.psm_simulation.specs.Agreement.{Acting, AreStanding, Entered, Reaches, Standing, arriving, frame_of, tables_left}

abbrev pub with_left : List Contents → List Cursor → Machine → Machine
with_left tables cs m = record (with_running (λ a. record a { cursors = cs }) m) { tables = tables }

-- its cursors are closed
block-left : (r : RawRoutine) (k : ℕ) (b : Block) (undo : Bool) (found : Option (List Contents)) (m : Machine) → block_at r k ≡ Some b → block_left r undo k found m ≡ with_left (put_back undo found m.tables) (closed_cursors b.cursors m.running.cursors) m
block-left r k b undo found m p = ap (λ x. with_left (put_back undo found m.tables) (closed_cursors (cursors_of x) m.running.cursors) m) p

abbrev pub cursors_left : List Standing → List Cursor → List Cursor
cursors_left [] cs = cs
cursors_left (Entered v outer found ∷ standing) cs = cursors_left standing (closed_cursors v.own cs)
cursors_left (Acting n resume area ∷ standing) cs = cursors_left standing cs

-- all that is entered is left
pub frames-left : (file : ResolvedFile) (code : RawCode) (routine : ResolvedRoutine) (r : RawRoutine) (undo : Bool) (standing : List Standing) (m : Machine) → AreStanding file code routine r standing
    → frames_left r undo (map frame_of standing) m ≡ with_left (tables_left undo standing m.tables) (cursors_left standing m.running.cursors) m
frames-left file code routine r undo [] m s = refl
frames-left file code routine r undo (Entered v outer found ∷ standing) m s =
    ap (frames_left r undo (map frame_of standing)) (block-left r v.context _ undo found m s.0.block) ∙ frames-left file code routine r undo standing (with_left (put_back undo found m.tables) (closed_cursors v.own m.running.cursors) m) s.1
frames-left file code routine r undo (Acting n resume area ∷ standing) m s = frames-left file code routine r undo standing m s

-- ---- the blocks inside that of a handler are left

pub record Inside (r : RawRoutine) (undo : Bool) (v : Visible) (outer : List Visible) (standing : List Standing) (m : Machine) : Type 0 where
  pub found : Option (List Contents)
  pub enclosing : List Standing
  pub tables : List Contents
  pub cursors : List Cursor
  pub arrived : arriving undo v.level standing m.tables m.running.cursors ≡ Some (record { block = v; outer = outer; found = found; standing = enclosing; tables = tables; cursors = cursors })
  pub from : frames_from v.context (map frame_of standing) ≡ map frame_of (Entered v outer found ∷ enclosing)
  pub left : frames_left r undo (frames_inside v.context (map frame_of standing)) m ≡ with_left tables cursors m

if-true : {A : Type 0} {b : Bool} (x y : A) → b ≡ true → (if b then x else y) ≡ x
if-true x y e = ap (λ b. if b then x else y) e

if-false : {A : Type 0} {b : Bool} (x y : A) → b ≡ false → (if b then x else y) ≡ y
if-false x y e = ap (λ b. if b then x else y) e

here : (r : RawRoutine) (undo : Bool) (v : Visible) (outer : List Visible) (found : Option (List Contents)) (standing : List Standing) (m : Machine) → Inside r undo v outer (Entered v outer found ∷ standing) m
here r undo v outer found standing m = record {
  found = found;
  enclosing = standing;
  tables = m.tables;
  cursors = m.running.cursors;
  arrived = if-true _ _ (nat_eq-same v.level);
  from = if-true _ _ (nat_eq-same v.context);
  left = ap (λ fs. frames_left r undo fs m) (if-true _ _ (nat_eq-same v.context));
}

pub inside : (file : ResolvedFile) (code : RawCode) (routine : ResolvedRoutine) (r : RawRoutine) (undo : Bool) (v : Visible) (outer : List Visible) (standing : List Standing) (m : Machine)
    → AreStanding file code routine r standing → Reaches v outer standing → Inside r undo v outer standing m
inside file code routine r undo v outer [] m s x = absurd x
inside file code routine r undo v outer (Entered w inner found ∷ standing) m s (inl e) =
    subst (λ u. Inside r undo v u (Entered w inner found ∷ standing) m) (sym e.1) (subst (λ u. Inside r undo u inner (Entered w inner found ∷ standing) m) (sym e.0) (here r undo w inner found standing m))
inside file code routine r undo v outer (Entered w inner found ∷ standing) m s (inr e) =
    let i = inside file code routine r undo v outer standing (with_left (put_back undo found m.tables) (closed_cursors w.own m.running.cursors) m) s.1 e.2 in
    record {
      found = i.found;
      enclosing = i.enclosing;
      tables = i.tables;
      cursors = i.cursors;
      arrived = if-false _ _ e.0 ∙ i.arrived;
      from = if-false _ _ e.1 ∙ i.from;
      left = ap (λ fs. frames_left r undo fs m) (if-false _ _ e.1) ∙ ap (frames_left r undo (frames_inside v.context (map frame_of standing))) (block-left r w.context _ undo found m s.0.block) ∙ i.left;
    }
inside file code routine r undo v outer (Acting n resume area ∷ standing) m s x =
    let i = inside file code routine r undo v outer standing m s x in
    record { found = i.found; enclosing = i.enclosing; tables = i.tables; cursors = i.cursors; arrived = i.arrived; from = i.from; left = i.left }
