use Rattle.std.proofs.Common.{◌≡◌, drop}
use Rattle.std.specs.List.{list_all}
use Rattle.psm_exprcode.specs.declared.aggregate.Aggregate.{Aggregate}
use Rattle.psm_query.specs.Ends.{is_from_ends}
use Rattle.psm_query.proofs.ends.is_each_from_ends.Given as goal

abbrev pub invariant-loop-set : goal.invariant-loop-set
invariant-loop-set l = list_all (λ (a : Aggregate). is_from_ends l.all l.column a.function a.operand) (drop l.set-index l.sets) ≡ list_all (λ (a : Aggregate). is_from_ends l.all l.column a.function a.operand) l.sets
