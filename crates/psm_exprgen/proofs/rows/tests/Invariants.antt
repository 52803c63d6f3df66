use Rattle.psm_exprgen.specs.Queries.{ExprsAre, is_test}
use Rattle.psm_exprgen.proofs.Codes.{RowTestsMade}
use Rattle.psm_exprgen.proofs.Lists.{Makes, Where}
use Rattle.psm_exprgen.proofs.rows.tests.Given as goal

abbrev pub invariant-loop-e : goal.invariant-loop-e
invariant-loop-e l = record {
  value : Makes (Where (is_test l.columns l.variables) ExprsAre) l.e-items l.e-index l.codes.items;
  fits : Makes (RowTestsMade l.columns l.variables) l.e-items l.e-index l.codes.items;
}
