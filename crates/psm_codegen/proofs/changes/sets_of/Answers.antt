use Rattle.std.proofs.Common.{arith, sym}
use Rattle.psm_exprgen.specs.Queries.{SourcesFit, is_set}
use Rattle.psm_exprgen.proofs.Codes.{sets_all, sets_next}
use Rattle.psm_exprgen.proofs.Lists.{makes_all, makes_next}
use Rattle.psm_codegen.proofs.changes.sets_of.Goals as goal

pub loop-set-preserved : goal.loop-set-preserved
loop-set-preserved c = record {
  value = sets_next (is_set c.args.columns.now c.args.variables.now) c.items-set-items.result.now c.loop-set.set-index c.set-item.result c.loop-set.codes.items c.in_ok-set_of.field-0 c.push.new.self.items
      c.in_ok-set_of.ensures.column c.in_ok-set_of.ensures.source (omega arith) c.set-item.is c.in_ok-push.ensures.items c.loop-set.invariant.value;
  fits = makes_next (SourcesFit c.args.columns.now c.args.variables.now) c.items-set-items.result.now c.loop-set.set-index c.set-item.result c.loop-set.codes.items c.in_ok-set_of.field-0 c.push.new.self.items
      (λ others more m. (c.in_ok-set_of.ensures.column, c.in_ok-set_of.ensures.fits, m)) (omega arith) c.set-item.is c.in_ok-push.ensures.items c.loop-set.invariant.fits;
}

pub returns-clause-value : goal.returns-clause-value
returns-clause-value c =
    sets_all (is_set c.args.columns.now c.args.variables.now) c.items-set-items.result.now c.args.sets.now c.loop-set.set-index c.loop-set.codes.items c.of.result
    (sym c.items-set-items.ensures) (omega arith) c.of.ensures c.loop-set.invariant.value

pub returns-clause-fits : goal.returns-clause-fits
returns-clause-fits c =
    makes_all (SourcesFit c.args.columns.now c.args.variables.now) c.items-set-items.result.now c.args.sets.now c.loop-set.set-index c.loop-set.codes.items c.of.result
    (sym c.items-set-items.ensures) (omega arith) c.of.ensures tt c.loop-set.invariant.fits
