use Rattle.psm_exprgen.specs.Queries.{SetsAre, SourcesFit, is_set}
use Rattle.psm_exprgen.proofs.Lists.{Makes, Where}
use Rattle.psm_codegen.proofs.changes.sets_of.Given as goal

abbrev pub invariant-loop-set : goal.invariant-loop-set
invariant-loop-set l = record {
  value : Makes (Where (is_set l.columns l.variables) SetsAre) l.set-items l.set-index l.codes.items;
  fits : Makes (SourcesFit l.columns l.variables) l.set-items l.set-index l.codes.items;
}
