use Rattle.std.proofs.Common.{length, length-append, List, [], ◌∷◌, ◌≤◌, ap, sym, subst, ◌∙◌, arith}
use Rattle.std.specs.Prelude.{All}
use Rattle.psm_table.specs.Held.{entries_of}
use Rattle.psm_table.proofs.Counts.{Key, Sets, counted-new, empty-pushed, tidy-new}
use Rattle.psm_table.proofs.Holds.{held-new}
use Rattle.psm_table.proofs.table.Table.new.Goals as goal

pub invariant_of-result : goal.invariant_of-result
invariant_of-result c = (
  held-new c.args.def c.into_vec-lists.result.items c.new-2.result c.loop.indexes.items c.requires c.new-2.ensures.pairs
      (c.into_vec-lists.ensures ∙ c.in_ok-copied_lists.ensures ∙ c.items-2.ensures)
      (omega (arith, c.loop.invariant.0, c.loop-test.false, c.loop.auto.index-end, ap length c.items-items.ensures)),
  counted-new c.args.def c.into_vec-lists.result.items c.new-2.result c.loop.indexes.items c.new-2.ensures.pairs c.loop.invariant.1,
)

pub loop-preserved : goal.loop-preserved
loop-preserved c = (
  omega (arith, ap length c.in_ok-push.ensures.items, length-append c.loop.indexes.items (c.new.result ∷ []), c.loop.invariant.0),
  subst (λ (s : Sets). All (λ (es : List Key). length es ≤ 0) (entries_of s)) (sym c.in_ok-push.ensures.items) (empty-pushed c.loop.indexes.items c.new.result c.new.ensures.pairs c.loop.invariant.1),
)

pub returns-clause-tidy : goal.returns-clause-tidy
returns-clause-tidy c = tidy-new c.args.def c.into_vec-lists.result.items c.new-2.result c.loop.indexes.items c.new-2.ensures.pairs c.loop.invariant.1
