use Rattle.std.proofs.Common.{arith, ◌≡◌, ◌+◌, suc, ap, set, ◌∙◌}
use Rattle.std.proofs.lemmas.List.{length-set}
use Rattle.psm_codegen.specs.Labels.{line_of, patched_context}
use Rattle.psm_codegen.specs.Patching.{map_from}
use Rattle.psm_codegen.proofs.Patching.{map_from_next}
use Rattle.psm_codegen.proofs.labels.patch_contexts.Goals as goal

pub loop-at-preserved : goal.loop-at-preserved
loop-at-preserved c =
    let more : suc c.loop-at.at ≡ c.loop-at.at + 1 = omega arith in
    record {
      same = length-set c.loop-at.contexts.items c.loop-at.at c.patch_context.new.context ∙ c.loop-at.invariant.same;
      contexts = c.loop-at.invariant.contexts
          ∙ map_from_next (patched_context (line_of c.args.labels.now)) c.loop-at.at c.loop-at.contexts.items c.index_mut.result.now c.patch_context.new.context
          (omega (arith, c.loop-at-test.true, c.len-at-end.ensures, c.loop-at.invariant.same)) c.index_mut.ensures.value c.patch_context.ensures
          ∙ ap (λ n. map_from (patched_context (line_of c.args.labels.now)) n (set c.loop-at.contexts.items c.loop-at.at c.patch_context.new.context)) more;
    }
