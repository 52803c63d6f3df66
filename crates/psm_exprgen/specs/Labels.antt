-- Labels: numbers that stand for lines which aren't known while lines are written. Lines name labels where they jump and where a run goes on
-- after a condition. Where all lines are written, the line to which a label is bound stands in place of it.
use Rattle.std.specs.Prelude.{◌≡◌, ℕ, List, [], map, slice_get, Option, Some, None, option_map}
use Rattle.psm_exprcode.specs.declared.op.Op.{Op}
use Rattle.psm_exprcode.specs.declared.op.Op.TheVariants as op
use Rattle.psm_code.specs.declared.instruction.Instruction.{Instruction}
use Rattle.psm_code.specs.declared.instruction.Instruction.TheVariants as instruction
use Rattle.psm_code.specs.declared.lines.CodeLine.{CodeLine}
use Rattle.psm_exprgen.specs.Writing.{BeginsWith}
use Rattle.psm_exprgen.specs.Written.{Written}

-- each label that is bound has the line to which it is bound
pub record Respects (σ : ℕ → ℕ) (labels : List (Option ℕ)) : Type 0 where
  pub bound_at : (label line : ℕ) → slice_get labels label ≡ Some (Some line) → σ label ≡ line

-- ---- lines in place of labels

-- what stands in place of an instruction that names a label
abbrev pub op_patch : (ℕ → ℕ) → Op → Option Op
op_patch σ (op.Jump label) = Some (op.Jump (σ label))
op_patch σ (op.JumpUnlessTrue label) = Some (op.JumpUnlessTrue (σ label))
op_patch σ (op.JumpUnlessNull label) = Some (op.JumpUnlessNull (σ label))
op_patch σ o = None

abbrev pub patch_of : (ℕ → ℕ) → Instruction → Option Instruction
patch_of σ (instruction.Operation o) = option_map instruction.Operation (op_patch σ o)
patch_of σ (instruction.Next cursor end) = Some (instruction.Next cursor (σ end))
patch_of σ i = None

abbrev pub instead : {A : Type 0} → A → Option A → A
instead a None = a
instead a (Some b) = b

abbrev pub patched_instruction : (ℕ → ℕ) → Instruction → Instruction
patched_instruction σ i = instead i (patch_of σ i)

abbrev pub patched_line : (ℕ → ℕ) → CodeLine → CodeLine
patched_line σ l = record { context = l.context; resume = option_map σ l.resume; stack = l.stack; instruction = patched_instruction σ l.instruction }

abbrev pub patched : (ℕ → ℕ) → Written → Written
patched σ w = record { lines = map (patched_line σ) w.lines; stack = w.stack; queries = w.queries; labels = [] }

-- ---- what is written with labels

-- from a state to another one: the labels that were there stay, and R holds with lines in place of labels. A label that isn't bound yet may
-- come to stand for any line
pub record Draft {S : Type 0} (labels_in : S → List (Option ℕ)) (patch : (ℕ → ℕ) → S → S) (R : (ℕ → ℕ) → S → S → Type 0) (w v : S) : Type 0 where
  pub labels : BeginsWith (labels_in w) (labels_in v)
  pub is : (σ : ℕ → ℕ) → Respects σ (labels_in v) → R σ (patch σ w) (patch σ v)

-- of lines
abbrev pub Drafted : ((ℕ → ℕ) → Written → Written → Type 0) → Written → Written → Type 0
Drafted R w v = Draft (λ u. u.labels) patched R w v
