use Rattle.std.proofs.Common.{◌≡◌, true, arith, subst, sym}
use Rattle.psm_exprgen.specs.Queries.{ExprFits, ExprIs, ExprsFit, is_value_of}
use Rattle.psm_exprgen.proofs.Codes.{exprs_all, exprs_next}
use Rattle.psm_exprgen.proofs.Lists.{makes_all, makes_next}
use Rattle.psm_exprgen.proofs.rows.values.Goals as goal

pub loop-e-preserved : goal.loop-e-preserved
loop-e-preserved c = record {
  value = exprs_next (is_value_of c.args.columns.now c.args.variables.now) c.items-e-items.result.now c.loop-e.e-index c.e-item.result c.loop-e.codes.items c.in_ok-value.field-0 c.push.new.self.items
      (subst (λ x. is_value_of c.args.columns.now c.args.variables.now x ≡ true → ExprIs x c.in_ok-value.field-0) c.get.ensures c.in_ok-value.ensures.value) (omega arith) c.e-item.is c.in_ok-push.ensures.items c.loop-e.invariant.value;
  fits = makes_next (ExprsFit c.args.columns.now c.args.variables.now) c.items-e-items.result.now c.loop-e.e-index c.e-item.result c.loop-e.codes.items c.in_ok-value.field-0 c.push.new.self.items
      (λ others more m. ((subst (λ x. ExprFits c.args.columns.now c.args.variables.now x c.in_ok-value.field-0) c.get.ensures c.in_ok-value.ensures.fits), m)) (omega arith) c.e-item.is c.in_ok-push.ensures.items c.loop-e.invariant.fits;
}

pub returns-clause-value : goal.returns-clause-value
returns-clause-value c =
    exprs_all (is_value_of c.args.columns.now c.args.variables.now) c.items-e-items.result.now c.args.es.now c.loop-e.e-index c.loop-e.codes.items c.of.result
    (sym c.items-e-items.ensures) (omega arith) c.of.ensures c.loop-e.invariant.value

pub returns-clause-fits : goal.returns-clause-fits
returns-clause-fits c =
    makes_all (ExprsFit c.args.columns.now c.args.variables.now) c.items-e-items.result.now c.args.es.now c.loop-e.e-index c.loop-e.codes.items c.of.result
    (sym c.items-e-items.ensures) (omega arith) c.of.ensures tt c.loop-e.invariant.fits
