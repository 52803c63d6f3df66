use Rattle.std.proofs.Common.{◌≡◌, length}
use Rattle.psm_exprgen.specs.Labels.{patched_line}
use Rattle.psm_codegen.specs.Labels.{line_of}
use Rattle.psm_codegen.specs.Patching.{map_from}
use Rattle.psm_codegen.proofs.labels.patch_lines.Given as goal

abbrev pub invariant-loop-at : goal.invariant-loop-at
invariant-loop-at l = record {
  same : length l.lines ≡ length l.fn.lines;
  lines : map_from (patched_line (line_of l.labels)) 0 l.fn.lines ≡ map_from (patched_line (line_of l.labels)) l.at l.lines;
}
