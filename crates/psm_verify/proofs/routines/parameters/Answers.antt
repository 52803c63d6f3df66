use Rattle.std.proofs.Common.{◌≡◌, ◌<◌, Ok, Some, ap, length, sym, take, arith, ◌∙◌}
use Rattle.std.specs.Prelude.{slice_get}
use Rattle.psm_code.specs.RoutineRules.{parameter_fault}
use Rattle.psm_code.specs.Rules.{is_same}
use Rattle.psm_keys.specs.Fresh.{is_new, with_new}
use Rattle.psm_verify.specs.Checked.{checked, item_at, item_in}
use Rattle.psm_verify.proofs.Earlier.{got, parameter_passed, step}
use Rattle.psm_verify.proofs.routines.parameters.Goals as goal

pub loop-at-preserved : goal.loop-at-preserved
loop-at-preserved c =
    let r = c.args.routine.now in
    let xs = r.parameters in
    let at = c.loop-at.at in
    let x = c.index-parameters-at.result in
    let y = c.index-parameters-at-in-loop-at.result in
    let within : at < length c.items-parameters.result.now = omega arith in
    let here : slice_get xs at ≡ Some x = ap (λ zs. slice_get zs at) (sym c.items-parameters.ensures) ∙ got c.items-parameters.result.now at x within c.index-parameters-at.is in
    let there : slice_get xs at ≡ Some y = ap (λ zs. slice_get zs at) (sym c.items-parameters.ensures) ∙ got c.items-parameters.result.now at y within c.index-parameters-at-in-loop-at.is in
    let passed : checked c.loop-at.line (item_at (parameter_fault r) xs at) ≡ Ok c.in_ok-line.line =
    ap (λ o. checked c.loop-at.line (item_in (parameter_fault r) (take at xs) o)) there ∙ ap (λ zs. checked c.loop-at.line (parameter_fault r (take at zs) y)) (sym c.items-parameters.ensures)
    ∙ ap (checked c.loop-at.line) c.parameter_fault-fault.ensures ∙ c.in_ok-line.ensures in
    step (parameter_fault r) is_same (λ p. p.name) (parameter_passed r) xs at c.args.line c.loop-at.line c.in_ok-line.line x c.in_ok-is_new.is_new c.loop-at.names c.add.new.self here c.loop-at.invariant
    (c.in_ok-is_new.ensures.answer ∙ ap (λ p. is_new is_same p.name c.loop-at.names) (sym c.index-parameters-at.is))
    (c.in_ok-is_new.ensures.after ∙ ap (λ p. with_new c.in_ok-is_new.is_new p.name c.loop-at.names) (sym c.index-parameters-at.is)) passed
