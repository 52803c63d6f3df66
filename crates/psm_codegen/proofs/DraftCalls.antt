-- What is evaluated before a statement does its work, with labels.
use Rattle.std.proofs.Common.{◌≡◌, ℕ, ◌+◌, List, ◌∷◌, Option, Some, None, refl}
use Rattle.psm_value.specs.declared.datum.Datum.TheVariants as data_of
use Rattle.psm_exprcode.specs.declared.op.Letter.{Letter}
use Rattle.psm_exprcode.specs.declared.op.Letter.TheVariants.{T}
use Rattle.psm_exprcode.specs.declared.op.Op.TheVariants as op
use Rattle.psm_resolved.specs.declared.expr.ResolvedExpr.{ResolvedExpr}
use Rattle.psm_resolved.specs.declared.statement.ResolvedArgument.{ResolvedArgument}
use Rattle.psm_resolved.specs.declared.statement.ResolvedArgument.TheVariants as call
use Rattle.psm_resolved.specs.declared.statement.ResolvedDeclaration.{ResolvedDeclaration}
use Rattle.psm_code.specs.declared.instruction.Instruction.{Instruction}
use Rattle.psm_exprgen.specs.declared.known.Known.{Known}
use Rattle.psm_exprgen.specs.Exprs.{Writes}
use Rattle.psm_exprgen.specs.Labels.{Drafted, patched_instruction}
use Rattle.psm_exprgen.specs.Written.{Written, applied, letter_at, takes}
use Rattle.psm_exprgen.proofs.DraftSteps.{applied_drafted, here_drafted, takes_drafted}
use Rattle.psm_exprgen.proofs.Drafts.{one, two}
use Rattle.psm_codegen.specs.Simples.{CallArguments, Declares, Default, Signals, copied, letter_of_slots}
use Rattle.psm_codegen.proofs.CallForms.{declaration_written, default_null, inout_written, out_written, signals_with, signals_without}
use Rattle.psm_codegen.proofs.DraftSteps.{copied_drafted}

module _ {known : Known} {context resume : ℕ} where
  -- an argument, and those after it
  pub out_drafted : {letters : List Letter} {n : ℕ} {a : ResolvedArgument} {w : Written} (slot : ℕ) → a ≡ call.Out slot
      → Drafted (λ σ x y. (others : List ResolvedArgument) (v : Written) → CallArguments known context (σ resume) letters n others y v → CallArguments known context (σ resume) letters n (a ∷ others) x v) w w
  out_drafted slot h = here_drafted (λ σ. out_written slot h)

  pub inout_drafted : {letters : List Letter} {n : ℕ} {a : ResolvedArgument} {w u : Written} {k : Letter} (slot : ℕ) → a ≡ call.InOut slot → k ≡ letter_at known.variables slot → u ≡ applied context resume (op.Variable slot) 0 k w
      → Drafted (λ σ x y. (others : List ResolvedArgument) (v : Written) → CallArguments known context (σ resume) letters (n + 1) others y v → CallArguments known context (σ resume) letters n (a ∷ others) x v) w u
  inout_drafted {k = k} slot h l e = one (applied_drafted context resume (op.Variable slot) 0 k (λ σ. refl) e) (λ σ x. inout_written slot h l x)

  -- declarations
  pub default_null_drafted : {k : Letter} {e : Option ResolvedExpr} {w v : Written} → e ≡ None → v ≡ applied context resume (op.Constant k data_of.Null) 0 k w → Drafted (λ σ. Default known context (σ resume) k e) w v
  default_null_drafted {k} h s = one (applied_drafted context resume (op.Constant k data_of.Null) 0 k (λ σ. refl) s) (λ σ x. default_null h x)

  pub declaration_drafted : {x : ResolvedDeclaration} {k : Letter} {w t u : Written} → k ≡ letter_of_slots known x.slots → Drafted (λ σ. Default known context (σ resume) k x.default) w t → u ≡ copied context resume x.slots t
      → Drafted (λ σ y z. (xs : List ResolvedDeclaration) (v : Written) → Declares known context (σ resume) xs z v → Declares known context (σ resume) (x ∷ xs) y v) w u
  declaration_drafted {x} l d e = two d (copied_drafted context resume x.slots e) (λ σ y z. declaration_written l y z)

  -- conditions
  pub signals_without_drafted : (i j : Instruction) {e : Option ResolvedExpr} {w v : Written} → e ≡ None → v ≡ takes context resume i 0 w → Drafted (λ σ. Signals known context (σ resume) (patched_instruction σ i) (patched_instruction σ j) e) w v
  signals_without_drafted i j h s = one (takes_drafted context resume i 0 s) (λ σ x. signals_without h x)

  pub signals_with_drafted : (i j : Instruction) {e : Option ResolvedExpr} {d f : ResolvedExpr} {w u v : Written} → e ≡ Some d → f ≡ d → Drafted (λ σ. Writes known context (σ resume) T f) w u → v ≡ takes context resume j 1 u
      → Drafted (λ σ. Signals known context (σ resume) (patched_instruction σ i) (patched_instruction σ j) e) w v
  signals_with_drafted i j h s a k = two a (takes_drafted context resume j 1 k) (λ σ x y. signals_with h s x y)
