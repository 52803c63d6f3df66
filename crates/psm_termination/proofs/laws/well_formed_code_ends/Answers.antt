use Rattle.std.proofs.Common.{subst}
use Rattle.psm_termination.specs.Measure.{shape}
use Rattle.psm_termination.proofs.Falling.{FallsTo}
use Rattle.psm_termination.proofs.Fewer.{fewer_steps}
use Rattle.psm_termination.proofs.Rows.{step_falls, run_ends}
use Rattle.psm_termination.proofs.laws.well_formed_code_ends.Goals as goal

pub returns-clause-falls : goal.returns-clause-falls
returns-clause-falls c = λ code well_formed_code m n h e. subst (FallsTo code (shape m)) e (step_falls code well_formed_code m h)

pub returns-clause-fewer : goal.returns-clause-fewer
returns-clause-fewer c = λ code s t f. fewer_steps code s t f

pub returns-clause-stays : goal.returns-clause-stays
returns-clause-stays c = λ code well_formed_code m last x h e. subst (FallsTo code (shape m)) e (step_falls code well_formed_code m h)

pub returns-clause-ends : goal.returns-clause-ends
returns-clause-ends c = λ code well_formed_code n r there args tables turns many kept. run_ends code well_formed_code n r there args tables turns many kept
