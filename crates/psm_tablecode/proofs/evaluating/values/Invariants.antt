use Rattle.psm_exprcode.specs.Evaluated.{evaluated}
use Rattle.psm_tablecode.specs.Codes.{value_in}
use Rattle.psm_tablecode.proofs.Collecting.{Collects}
use Rattle.psm_tablecode.proofs.evaluating.values.Given as goal

abbrev pub invariant-loop-code : goal.invariant-loop-code
invariant-loop-code l = Collects (λ e. value_in (evaluated e l.row l.vars)) l.codes l.code-index l.values.items
