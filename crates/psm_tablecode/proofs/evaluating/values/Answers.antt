use Rattle.std.proofs.Common.{sym, subst}
use Rattle.psm_tablecode.specs.TypeChecks.{Runs}
use Rattle.psm_tablecode.proofs.evaluating.values.Goals as goal

pub value-requires : goal.value-requires
value-requires c = subst (Runs c.args.row.now c.args.vars.now) (sym c.code-item.is) (c.requires c.loop-code.code-index c.code-item.result c.loop-code-test.true)
