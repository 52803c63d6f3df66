use Rattle.std.proofs.Common.{[], sym, subst}
use Rattle.psm_tablecode.specs.TypeChecks.{Runs}
use Rattle.psm_dml.proofs.checking.holds.Goals as goal

pub truth-requires : goal.truth-requires
truth-requires c = subst (Runs c.args.row.now []) (sym c.check-item.is) (c.requires c.loop-check.check-index c.check-item.result c.loop-check-test.true)
