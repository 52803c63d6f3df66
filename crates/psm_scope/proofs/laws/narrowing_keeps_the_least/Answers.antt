use Rattle.psm_scope.proofs.Least.{narrowed_least}
use Rattle.psm_scope.proofs.laws.narrowing_keeps_the_least.Goals as goal

pub returns : goal.returns
returns c = λ args cs. narrowed_least 0 args cs
