-- The view of a run where the marks of its blocks stay.
use Rattle.std.proofs.Common.{◌≡◌, List, [], ◌∷◌, drop, reverse, Some, None, refl, ap, ◌∙◌}
use Rattle.psm_table.specs.Table.{Contents}
use Rattle.psm_exprcode.specs.declared.operand.Operand.{Operand}
use Rattle.psm_operands.specs.Stacked.{first_of}
use Rattle.psm_store.specs.declared.store.Mark.{Mark}
use Rattle.psm_code.specs.State as code
use Rattle.psm_unwind.specs.declared.run.Activation.{Activation}
use Rattle.psm_unwind.specs.declared.run.Frame.{Frame}
use Rattle.psm_unwind.specs.declared.run.Frame.TheVariants.{Block, Action}
use Rattle.psm_unwind.specs.declared.run.Run.{Run}
use Rattle.psm_unwind.specs.Marks.{Each, Stays, marks_in, marks_of, open_marks}
use Rattle.psm_unwind.specs.View.{activation_of, callers_of, frames_of, machine_of}
use Rattle.psm_unwind.proofs.Nestings.{each_left, each_right}

module _ (at : Mark → List Contents) (new : Mark → Type 0) (at_new : Mark → List Contents) where
  pub frames_stay : (frames : List Frame) → Each (Stays at new at_new) (marks_in frames) → frames_of at_new frames ≡ frames_of at frames
  frames_stay [] e = refl
  frames_stay (Block k None ∷ frames) e = ap (λ fs. code.InBlock k None ∷ fs) (frames_stay frames e)
  frames_stay (Block k (Some m) ∷ frames) e = ap (λ t. code.InBlock k (Some t) ∷ frames_of at_new frames) e.0.1 ∙ ap (λ fs. code.InBlock k (Some (at m)) ∷ fs) (frames_stay frames e.1)
  frames_stay (Action h resume c rows ∷ frames) e = ap (λ fs. code.InAction h resume (record { entries = c; rows = rows }) ∷ fs) (frames_stay frames e)

  activation_stays : (os : List Operand) (a : Activation) → Each (Stays at new at_new) (marks_in (reverse a.frames.items)) → activation_of at_new os a ≡ activation_of at os a
  activation_stays os a e = ap (λ fs. record (activation_of at os a) { frames = fs }) (frames_stay (reverse a.frames.items) e)

  pub callers_stay : (stacks : List (List Operand)) (callers : List Activation) → Each (Stays at new at_new) (marks_of callers) → callers_of at_new stacks callers ≡ callers_of at stacks callers
  callers_stay stacks [] e = refl
  callers_stay stacks (a ∷ callers) e =
      ap (λ x. x ∷ callers_of at_new (drop 1 stacks) callers) (activation_stays (first_of stacks) a (each_left (Stays at new at_new) (marks_in (reverse a.frames.items)) (marks_of callers) e))
      ∙ ap (λ xs. activation_of at (first_of stacks) a ∷ xs) (callers_stay (drop 1 stacks) callers (each_right (Stays at new at_new) (marks_in (reverse a.frames.items)) (marks_of callers) e))

  pub machine_stays : (tables : List Contents) (r : Run) → Each (Stays at new at_new) (open_marks r) → machine_of tables at_new r ≡ machine_of tables at r
  machine_stays tables r e =
      let inner = marks_in (reverse r.running.frames.items) in
      let outer = marks_of (reverse r.callers.items) in
      ap (λ a. record (machine_of tables at_new r) { running = a }) (activation_stays r.operands.own r.running (each_left (Stays at new at_new) inner outer e))
      ∙ ap (λ cs. record (machine_of tables at r) { callers = cs }) (callers_stay r.operands.callers (reverse r.callers.items) (each_right (Stays at new at_new) inner outer e))
