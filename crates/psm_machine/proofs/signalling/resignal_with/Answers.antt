use Rattle.std.proofs.Common.{◌≡◌, ap, sym}
use Rattle.psm_unwind.specs.View.{machine_of}
use Rattle.psm_code.specs.Signalling.{resignal_with}
use Rattle.psm_code.specs.Steps.{raises}
use Rattle.psm_machine.proofs.Acting.{raising_comes}
use Rattle.psm_machine.proofs.ActSequences.{stopped}
use Rattle.psm_machine.proofs.signalling.resignal_with.Goals as goal

pub returns-in_err-condition : goal.returns-in_err-condition
returns-in_err-condition c = λ tables at. stopped _ _ _ c.in_err-condition.field-0.0 c.from_residual.result c.from_residual.ensures.1 (c.in_err-condition.ensures tables at)

pub returns : goal.returns
returns c = λ tables at.
    let now = machine_of tables at c.args.run.now in
    let is : resignal_with c.args.entry now ≡ raises c.in_ok-following.field-0 now =
    rw (c.in_ok-condition.ensures tables at) (ap (λ e. raises e now) (sym c.in_ok-following.ensures)) in
    raising_comes _ _ c.in_ok-following.field-0 now c.stop_with.result is c.stop_with.ensures
