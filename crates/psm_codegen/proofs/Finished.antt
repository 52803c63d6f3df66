-- The finished code of a routine keeps all that was written of it, and all that had been written before.
use Rattle.std.proofs.Common.{◌≡◌, ℕ, Bool, List, [], sym, ◌∙◌, append-nil}
use Rattle.psm_code.specs.declared.code.RawRoutine.{RawRoutine}
use Rattle.psm_resolved.specs.declared.file.ResolvedRoutine.{ResolvedRoutine}
use Rattle.psm_exprgen.specs.declared.known.Known.{Known}
use Rattle.psm_exprgen.specs.Writing.{BeginsWith}
use Rattle.psm_codegen.specs.Files.{RoutineWritten}
use Rattle.psm_codegen.specs.FunctionBuilder.{FunctionBuilder}
use Rattle.psm_codegen.proofs.Growing.{Grown}
use Rattle.psm_codegen.proofs.Placing.{Kept, kept-earlier}

begins-same : {A : Type 0} {xs ys : List A} → ys ≡ xs → BeginsWith xs ys
begins-same {xs = xs} e = record { more = []; is = e ∙ sym (append-nil xs) }

-- the body's lines, after which one more stands, and its queries, contexts, handlers, conditions, plans and cursors
pub code-keeps : {known : Known} {routine : ResolvedRoutine} {r : RawRoutine} (w : RoutineWritten known routine r) → Kept w.parts r
code-keeps w = record {
  code = record { lines = record { more = _; is = w.lines }; queries = begins-same w.queries };
  contexts = begins-same w.contexts;
  handlers = begins-same w.handlers;
  declared = begins-same w.declared;
  plans = begins-same w.plans;
  cursors = begins-same w.cursors;
}

-- the same of what had been written when the body was written up to there
pub code-keeps-before : {known : Known} {routine : ResolvedRoutine} {r : RawRoutine} {but : ℕ → Bool} {p : FunctionBuilder} (w : RoutineWritten known routine r) → Grown but p w.parts → Kept p r
code-keeps-before w g = kept-earlier g (code-keeps w)
