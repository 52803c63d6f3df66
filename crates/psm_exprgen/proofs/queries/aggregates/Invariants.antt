use Rattle.psm_resolved.specs.declared.expr.ResolvedItem.{out-ResolvedItem}
use Rattle.psm_exprgen.specs.Queries.{AggregatesAre, AggregatesFit, is_value_perhaps}
use Rattle.psm_exprgen.proofs.Lists.{Makes, Where}
use Rattle.psm_exprgen.proofs.queries.aggregates.Given as goal

abbrev pub invariant-loop-item : goal.invariant-loop-item
invariant-loop-item l = record {
  value : Makes (Where (λ i. is_value_perhaps l.columns l.variables (out-ResolvedItem i).operand) AggregatesAre) l.item-items l.item-index l.codes.items;
  fits : Makes (AggregatesFit l.columns l.variables) l.item-items l.item-index l.codes.items;
}
