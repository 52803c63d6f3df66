use Rattle.psm_exprgen.specs.Queries.{ExprsAre, ExprsFit, is_value_of}
use Rattle.psm_exprgen.proofs.Lists.{Makes, Where}
use Rattle.psm_exprgen.proofs.rows.values.Given as goal

abbrev pub invariant-loop-e : goal.invariant-loop-e
invariant-loop-e l = record {
  value : Makes (Where (is_value_of l.columns l.variables) ExprsAre) l.e-items l.e-index l.codes.items;
  fits : Makes (ExprsFit l.columns l.variables) l.e-items l.e-index l.codes.items;
}
