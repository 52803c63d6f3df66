-- All that is written for a routine is in it.
use Rattle.std.proofs.Common.{◌≡◌, List, [], ◌∙◌, sym, append-nil}
use Rattle.psm_resolved.specs.declared.file.ResolvedRoutine.{ResolvedRoutine}
use Rattle.psm_code.specs.declared.code.RawRoutine.{RawRoutine}
use Rattle.psm_exprgen.specs.declared.known.Known.{Known}
use Rattle.psm_exprgen.specs.Writing.{BeginsWith}
use Rattle.psm_codegen.specs.Files.{RoutineWritten}
use Rattle.psm_codegen.proofs.Placing.{Kept}

pub begins-same : {A : Type 0} {xs ys : List A} → ys ≡ xs → BeginsWith xs ys
begins-same {xs = xs} q = record { more = []; is = q ∙ sym (append-nil xs) }

pub parts-kept : {known : Known} {routine : ResolvedRoutine} {r : RawRoutine} → (w : RoutineWritten known routine r) → Kept w.parts r
parts-kept w = record {
  code = record { lines = record { more = _; is = w.lines }; queries = begins-same w.queries };
  contexts = begins-same w.contexts;
  handlers = begins-same w.handlers;
  declared = begins-same w.declared;
  plans = begins-same w.plans;
  cursors = begins-same w.cursors;
}
