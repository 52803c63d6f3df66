use Rattle.std.proofs.Common.{◌≡◌}
use Rattle.std.specs.List.{All}
use Rattle.std.specs.Prelude.{IsTrue}
use Rattle.psm_cond.specs.WellFormed.{is_numbered}
use Rattle.psm_resolved.specs.declared.file.ResolvedRoutine.{ResolvedRoutine}
use Rattle.psm_exprgen.proofs.Lists.{Makes}
use Rattle.psm_codegen.specs.FileKnown.{with_routine}
use Rattle.psm_codegen.specs.Files.{RoutinesWritten, known_of}
use Rattle.psm_codegen.proofs.lowering.routines_code.Given as goal

abbrev pub invariant-loop-routine : goal.invariant-loop-routine
invariant-loop-routine l = record {
  known : (r : ResolvedRoutine) → with_routine r l.known ≡ known_of l.file r;
  numbered : All (λ r. IsTrue (is_numbered r.handlers)) l.codes.items;
  written : Makes (RoutinesWritten l.file) l.routine-items l.routine-index l.codes.items;
}
