use Rattle.psm_scope.proofs.Narrowing.{narrowed_more}
use Rattle.psm_scope.proofs.laws.one_candidate_more.Goals as goal

pub returns : goal.returns
returns c = λ args candidate cs. narrowed_more 0 args candidate cs
