use Rattle.std.proofs.Common.{◌≡◌, ◌<◌, Some, ap, length, rules, arith, sym, ◌∙◌}
use Rattle.std.specs.Prelude.{slice_get}
use Rattle.psm_code.specs.RoutineRules.{handler_fault}
use Rattle.psm_verify.proofs.Each.{after_stop}
use Rattle.psm_verify.proofs.Earlier.{got, handlers_step, new_values_there}
use Rattle.psm_verify.proofs.handling.handlers.Goals as goal

pub handler_at-requires : goal.handler_at-requires
handler_at-requires c =
    let hs = c.args.routine.now.handlers.handlers in
    let at = c.loop-at.at in
    let x = c.index-handlers-at.result in
    let within : at < length c.handlers.result.now = omega (arith, ap length c.handlers-at-end.ensures, ap length c.handlers.ensures) in
    let here : slice_get hs at ≡ Some x = ap (λ zs. slice_get zs at) (sym c.handlers.ensures) ∙ got c.handlers.result.now at x within c.index-handlers-at.is in
    new_values_there hs at x here c.in_ok-are_new.are_new c.loop-at.handled c.loop-at.invariant.1
    c.in_ok-are_new.ensures.answer

pub returns-in_err-line : goal.returns-in_err-line
returns-in_err-line c =
    after_stop (handler_fault c.args.routine.now) c.args.routine.now.handlers.handlers c.loop-at.at c.args.line c.loop-at.line (search rules) (omega (arith, ap length c.handlers-at-end.ensures)) c.loop-at.invariant.0 c.in_err-line.ensures

pub loop-at-preserved : goal.loop-at-preserved
loop-at-preserved c =
    let hs = c.args.routine.now.handlers.handlers in
    let at = c.loop-at.at in
    let x = c.index-handlers-at.result in
    let within : at < length c.handlers.result.now = omega (arith, ap length c.handlers-at-end.ensures, ap length c.handlers.ensures) in
    let here : slice_get hs at ≡ Some x = ap (λ zs. slice_get zs at) (sym c.handlers.ensures) ∙ got c.handlers.result.now at x within c.index-handlers-at.is in
    handlers_step hs at x here c.in_ok-are_new.are_new c.loop-at.handled c.loop-at.invariant.1
    c.in_ok-are_new.ensures.answer
    c.args.routine.now c.args.line c.loop-at.line c.in_ok-line.line c.add_handler.new.self c.loop-at.invariant.0
    c.in_ok-are_new.ensures.after c.in_ok-line.ensures
