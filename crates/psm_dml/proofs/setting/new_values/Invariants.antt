use Rattle.psm_exprcode.specs.Evaluated.{evaluated}
use Rattle.psm_tablecode.specs.Codes.{value_in}
use Rattle.psm_tablecode.proofs.Collecting.{Collects}
use Rattle.psm_exprcode.specs.declared.set_item.SetItem.{SetItem}
use Rattle.psm_dml.proofs.setting.new_values.Given as goal

abbrev pub invariant-loop-set : goal.invariant-loop-set
invariant-loop-set l = Collects (λ (s : SetItem). value_in (evaluated s.source l.row l.vars)) l.sets l.set-index l.values.items
