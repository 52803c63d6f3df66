use Rattle.std.proofs.Common.{◌≡◌, length}
use Rattle.psm_codegen.specs.Labels.{line_of, patched_context}
use Rattle.psm_codegen.specs.Patching.{map_from}
use Rattle.psm_codegen.proofs.labels.patch_contexts.Given as goal

abbrev pub invariant-loop-at : goal.invariant-loop-at
invariant-loop-at l = record {
  same : length l.contexts.items ≡ length l.fn.contexts.items;
  contexts : map_from (patched_context (line_of l.labels)) 0 l.fn.contexts.items ≡ map_from (patched_context (line_of l.labels)) l.at l.contexts.items;
}
