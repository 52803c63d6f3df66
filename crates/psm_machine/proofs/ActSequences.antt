-- Parts of an instruction, one after another.
use Rattle.std.proofs.Common.{◌≡◌, ℕ, zero, suc, List, [], ◌∷◌, Option, Some, None, All, Result, Ok, Err, IsErrAnd, slice_get, ap, sym, subst, ◌∙◌, arith}
use Rattle.psm_code.specs.State.{Machine}
use Rattle.psm_code.specs.Steps.{Act, Came, go_on}
use Rattle.psm_unwind.specs.declared.run.Run.{Run}
use Rattle.psm_unwind.specs.Marks.{SameFrames}
use Rattle.psm_unwind.specs.View.{at_end}
use Rattle.psm_machine.specs.declared.stop.Stop.{Stop}
use Rattle.psm_machine.specs.declared.stop.Stop.TheVariants as stop
use Rattle.psm_machine.specs.ActResults.{Evaluates}

pub err_is : {A E : Type 0} (r : Result A E) (s : E) → IsErrAnd r (λ e. e ≡ s) → r ≡ Err s
err_is (Ok a) s h = absurd h
err_is (Err e) s h = ap Err h

out_of : {A B : Type 0} (came : Came A) (go : A → Act B) (now : Machine) (s : Stop) → Evaluates came (Err s) now → Evaluates (go_on came.given go came.machine) (Err s) now
out_of {A} came go now (stop.Raises c) h = ap (λ (x : Came A). go_on x.given go x.machine) h
out_of came go now stop.NoTurns h = (ap (λ x. (go_on x go came.machine).given) h.0, ap (λ x. at_end (go_on x go came.machine).machine) h.0 ∙ h.1)
out_of came go now stop.Stuck h = (ap (λ x. (go_on x go came.machine).given) h.0, ap (λ x. at_end (go_on x go came.machine).machine) h.0 ∙ h.1)
out_of came go now stop.Memory h = tt

-- what stops a part stops what it is a part of
pub stopped : {A B : Type 0} (came : Came A) (go : A → Act B) (now : Machine) (s : Stop) (r : Result B Stop) → IsErrAnd r (λ e. e ≡ s) → Evaluates came (Err s) now → Evaluates (go_on came.given go came.machine) r now
stopped came go now s r e h = subst (λ x. Evaluates (go_on came.given go came.machine) x now) (sym (err_is r s e)) (out_of came go now s h)

pub same_then : (r s t : Run) → SameFrames r s → SameFrames s t → SameFrames r t
same_then r s t a b = record { frames = b.frames ∙ a.frames; callers = b.callers ∙ a.callers; bound = b.bound ∙ a.bound; base = b.base ∙ a.base }

abbrev or_else_is : {A : Type 0} → A → Option A → A
or_else_is x None = x
or_else_is x (Some y) = y

-- one of some
pub one_of : {A : Type 0} (P : A → Type 0) (xs : List A) (n : ℕ) (x : A) → All P xs → slice_get xs n ≡ Some x → P x
one_of P [] n x h e = cc
one_of P (y ∷ ys) zero x h e = subst P (ap (or_else_is y) e) (h 0 y (omega arith))
one_of P (y ∷ ys) (suc n) x h e = one_of P ys n x (λ k d l. h (suc k) d (omega (arith, l))) e
