use Rattle.std.proofs.Common.{sym, subst}
use Rattle.psm_exprcode.specs.declared.set_item.SetItem.{SetItem}
use Rattle.psm_tablecode.specs.TypeChecks.{Runs}
use Rattle.psm_dml.proofs.setting.new_values.Goals as goal

pub value-requires : goal.value-requires
value-requires c = subst (λ (s : SetItem). Runs c.args.row.now c.args.vars.now s.source) (sym c.set-item.is) (c.requires c.loop-set.set-index c.set-item.result c.loop-set-test.true)
