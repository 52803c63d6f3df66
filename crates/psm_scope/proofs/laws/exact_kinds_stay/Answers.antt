use Rattle.psm_scope.proofs.Exactly.{chosen_exactly}
use Rattle.psm_scope.proofs.laws.exact_kinds_stay.Goals as goal

pub returns : goal.returns
returns c = λ routines name args typed there. chosen_exactly name args typed routines there
