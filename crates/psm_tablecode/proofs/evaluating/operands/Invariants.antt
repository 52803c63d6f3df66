use Rattle.psm_table.specs.Queries.{operand_of}
use Rattle.psm_tablecode.specs.Codes.{over}
use Rattle.psm_tablecode.proofs.Collecting.{Collects}
use Rattle.psm_tablecode.proofs.evaluating.operands.Given as goal

abbrev pub invariant-loop-set : goal.invariant-loop-set
invariant-loop-set l = Collects (λ a. operand_of (over l.vars) a.operand l.row) l.sets l.set-index l.values.items
