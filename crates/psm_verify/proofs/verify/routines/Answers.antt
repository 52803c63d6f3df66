use Rattle.std.proofs.Common.{◌≡◌, ◌<◌, Some, ap, length, rules, arith, sym, ◌∙◌}
use Rattle.std.specs.Prelude.{slice_get}
use Rattle.psm_code.specs.RoutineRules.{routine_faults}
use Rattle.psm_keys.specs.Signature.{is_same_signature, signature_of}
use Rattle.psm_verify.proofs.Each.{after_stop}
use Rattle.psm_verify.proofs.Earlier.{got, new_there, routine_passed, step}
use Rattle.psm_verify.proofs.verify.routines.Goals as goal

pub routine_at-requires-clause-apart : goal.routine_at-requires-clause-apart
routine_at-requires-clause-apart c =
    let xs = c.args.code.now.routines in
    let at = c.loop-at.at in
    let x = c.index-items-at.result in
    let within : at < length c.items.result.now = omega (arith, ap length c.items-at-end.ensures, ap length c.items.ensures) in
    let here : slice_get xs at ≡ Some x = ap (λ zs. slice_get zs at) (sym c.items.ensures) ∙ got c.items.result.now at x within c.index-items-at.is in
    new_there xs at x here is_same_signature signature_of c.in_ok-is_apart.is_apart c.loop-at.signatures c.loop-at.invariant.1
    c.in_ok-is_apart.ensures.answer

pub returns-in_err-line : goal.returns-in_err-line
returns-in_err-line c =
    after_stop (routine_faults c.args.code.now) c.args.code.now.routines c.loop-at.at c.args.line c.loop-at.line (search rules) (omega (arith, ap length c.items-at-end.ensures)) c.loop-at.invariant.0 c.in_err-line.ensures

pub loop-at-preserved : goal.loop-at-preserved
loop-at-preserved c =
    let xs = c.args.code.now.routines in
    let at = c.loop-at.at in
    let x = c.index-items-at.result in
    let within : at < length c.items.result.now = omega (arith, ap length c.items-at-end.ensures, ap length c.items.ensures) in
    let here : slice_get xs at ≡ Some x = ap (λ zs. slice_get zs at) (sym c.items.ensures) ∙ got c.items.result.now at x within c.index-items-at.is in
    step (routine_faults c.args.code.now) is_same_signature signature_of (routine_passed c.args.code.now) xs at c.args.line c.loop-at.line c.in_ok-line.line x c.in_ok-is_apart.is_apart c.loop-at.signatures c.add.new.self here c.loop-at.invariant
    c.in_ok-is_apart.ensures.answer
    c.in_ok-is_apart.ensures.after c.in_ok-line.ensures
