-- A line that fits and stands for nothing that code holds.
use Rattle.std.proofs.Common.{◌≡◌, ℕ, suc, List, Option, Some, None, Result, Ok, Err, refl, sym, ap, ◌∙◌}
use Rattle.psm_code.specs.declared.instruction.Instruction.{Instruction}
use Rattle.psm_code.specs.declared.instruction.Instruction.TheVariants as instruction
use Rattle.psm_code.specs.declared.rule.CodeRule.{CodeRule}
use Rattle.psm_code.specs.declared.rule.CodeRule.TheVariants.{Place}
use Rattle.psm_exprcode.specs.declared.op.Letter.{Letter}
use Rattle.psm_exprcode.specs.declared.op.Op.{Op}
use Rattle.psm_exprcode.specs.declared.op.Op.TheVariants as op
use Rattle.psm_load_line.specs.InstructionForms.{operation_line_at}
use Rattle.psm_load_line.specs.Readers.{LineReader}
use Rattle.psm_load_line.specs.Said.{Reads}
use Rattle.psm_load_line.specs.declared.fault.Unread.{Unread}
use Rattle.psm_load_line.specs.declared.fault.Unread.TheVariants.{Misfit, Memory}
use Rattle.psm_load.specs.Left.{Left, Takes, noted, placed}
use Rattle.psm_load.specs.Parts.{At, after_line, and_then, first_odd, given, noting, taken}
use Rattle.psm_load.specs.Stated.{breaks_place, op_of, operation}
use Rattle.psm_load.specs.declared.left.NumberedLine.{NumberedLine}

noted_after : (at : At) (rule : CodeRule) → first_odd (first_odd at.odd at.number None) at.number (Some rule) ≡ first_odd at.odd at.number (Some rule)
noted_after at rule = by at.odd
  where
    by : (o : Option (ℕ × CodeRule)) → first_odd (first_odd o at.number None) at.number (Some rule) ≡ first_odd o at.number (Some rule)
    by None = refl
    by (Some f) = refl

-- a line is read and noted
noted_line : {A : Type 0} (breaks : A → Option CodeRule) (read : LineReader A) (rule : CodeRule) (old mid : Left) (line : NumberedLine) (a : A) → Takes old mid line → read line.bytes.now ≡ Some a → breaks a ≡ Some rule
    → noting breaks read old.at old.lines ≡ Ok (a, ((noted mid line.number rule).at, (noted mid line.number rule).lines))
noted_line breaks read rule old mid line a t e b = ap (noting breaks read old.at) t.lines ∙ ap (taken old.at breaks mid.lines) e
    ∙ ap (λ b. Ok (a, (after_line old.at b, mid.lines))) b
    ∙ ap (λ o. Ok (a, (record { number = suc old.at.number; odd = o }, mid.lines))) (sym (noted_after old.at rule))
    ∙ ap (λ n. Ok (a, (record { number = suc old.at.number; odd = first_odd (first_odd old.at.odd old.at.number None) n (Some rule) }, mid.lines))) (sym t.number)
    ∙ ap (λ (at : At). Ok (a, (record { number = at.number; odd = first_odd at.odd line.number (Some rule) }, mid.lines))) (sym t.at)

said : {A : Type 0} (n : ℕ) (o : Option A) (r : Result A Unread) (a : A) → Reads o r → Ok a ≡ placed n r → o ≡ Some a
said n o (Ok b) a h e = let s : b ≡ a = cc in h ∙ ap Some s
said n o (Err Misfit) a h e = absurd (cc e)
said n o (Err Memory) a h e = absurd (cc e)

other_op : (i : Instruction) → ((o : Op) → i ≡ instruction.Operation o → ⊥) → op_of i ≡ op.Rescale 255
other_op (instruction.Operation o) h = absurd (h o refl)
other_op i h = refl

other_place : (stack : List Letter) (i : Instruction) → ((o : Op) → i ≡ instruction.Operation o → ⊥) → breaks_place (stack, i) ≡ Some Place
other_place stack (instruction.Operation o) h = absurd (h o refl)
other_place stack i h = refl

-- an instruction under EXPR that is no operation
pub other_noted : (old mid : Left) (line : NumberedLine) (r : Result (List Letter × Instruction) Unread) (stack : List Letter) (i : Instruction) → Takes old mid line → Reads (operation_line_at line.bytes.now) r
    → Ok (stack, i) ≡ placed line.number r → ((o : Op) → i ≡ instruction.Operation o → ⊥)
    → operation old.at old.lines ≡ Ok (record { stack = stack; op = op.Rescale 255 }, ((noted mid line.number Place).at, (noted mid line.number Place).lines))
other_noted old mid line r stack i t h e other =
    ap (λ x. and_then x (λ x. given (record { stack = x.0; op = op_of x.1 })))
    (noted_line breaks_place operation_line_at Place old mid line (stack, i) t (said line.number (operation_line_at line.bytes.now) r (stack, i) h e) (other_place stack i other))
    ∙ ap (λ o. Ok (record { stack = stack; op = o }, ((noted mid line.number Place).at, (noted mid line.number Place).lines))) (other_op i other)
