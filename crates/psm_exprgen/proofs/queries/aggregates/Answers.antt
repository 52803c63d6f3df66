use Rattle.std.proofs.Common.{arith, sym}
use Rattle.psm_exprgen.specs.Queries.{AggregatesFit, is_value_perhaps}
use Rattle.psm_exprgen.proofs.Codes.{aggregates_all, aggregates_next}
use Rattle.psm_exprgen.proofs.Lists.{makes_all, makes_next}
use Rattle.psm_exprgen.proofs.queries.aggregates.Goals as goal

pub loop-item-preserved : goal.loop-item-preserved
loop-item-preserved c = record {
  value = aggregates_next (is_value_perhaps c.args.columns.now c.args.variables.now) c.items-item-items.result.now c.loop-item.item-index c.item-item.result c.loop-item.codes.items c.in_ok-aggregate.field-0 c.push.new.self.items
      c.in_ok-aggregate.ensures.function c.in_ok-aggregate.ensures.operand (omega arith) c.item-item.is c.in_ok-push.ensures.items c.loop-item.invariant.value;
  fits = makes_next (AggregatesFit c.args.columns.now c.args.variables.now) c.items-item-items.result.now c.loop-item.item-index c.item-item.result c.loop-item.codes.items c.in_ok-aggregate.field-0 c.push.new.self.items
      (λ others more m. (c.in_ok-aggregate.ensures.function, c.in_ok-aggregate.ensures.fits, m)) (omega arith) c.item-item.is c.in_ok-push.ensures.items c.loop-item.invariant.fits;
}

pub returns-clause-value : goal.returns-clause-value
returns-clause-value c =
    aggregates_all (is_value_perhaps c.args.columns.now c.args.variables.now) c.items-item-items.result.now c.args.items.now c.loop-item.item-index c.loop-item.codes.items c.of.result
    (sym c.items-item-items.ensures) (omega arith) c.of.ensures c.loop-item.invariant.value

pub returns-clause-fits : goal.returns-clause-fits
returns-clause-fits c =
    makes_all (AggregatesFit c.args.columns.now c.args.variables.now) c.items-item-items.result.now c.args.items.now c.loop-item.item-index c.loop-item.codes.items c.of.result
    (sym c.items-item-items.ensures) (omega arith) c.of.ensures tt c.loop-item.invariant.fits
