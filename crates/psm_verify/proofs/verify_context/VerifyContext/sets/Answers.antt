use Rattle.std.proofs.Common.{◌≡◌, Some, ap, rules, arith, sym, ◌∙◌}
use Rattle.std.specs.Prelude.{nat_eq, slice_get}
use Rattle.psm_code.specs.PlanRules.{set_faults}
use Rattle.psm_keys.specs.Fresh.{is_new, with_new}
use Rattle.psm_verify.proofs.Each.{after_stop}
use Rattle.psm_verify.proofs.Earlier.{got, new_there, set_passed, step}
use Rattle.psm_verify.proofs.verify_context.VerifyContext.sets.Goals as goal

pub set_at-requires : goal.set_at-requires
set_at-requires c =
    let xs = c.args.sets.now in
    let at = c.loop-at.at in
    let x = c.index-sets-at.result in
    let here : slice_get xs at ≡ Some x = got xs at x (omega arith) c.index-sets-at.is in
    new_there xs at x here nat_eq (λ s. s.column) c.in_ok-is_new.is_new c.loop-at.columns c.loop-at.invariant.1
    (c.in_ok-is_new.ensures.answer ∙ ap (λ s. is_new nat_eq s.column c.loop-at.columns) (sym c.index-sets-at.is))

pub returns-in_err-line : goal.returns-in_err-line
returns-in_err-line c = after_stop (set_faults c.args.self.now.code.now c.args.self.now.routine.now c.args.table) c.args.sets.now c.loop-at.at c.args.line c.loop-at.line (search rules) (omega arith) c.loop-at.invariant.0 c.in_err-line.ensures

pub loop-at-preserved : goal.loop-at-preserved
loop-at-preserved c =
    let code = c.args.self.now.code.now in
    let r = c.args.self.now.routine.now in
    let xs = c.args.sets.now in
    let at = c.loop-at.at in
    let x = c.index-sets-at.result in
    let here : slice_get xs at ≡ Some x = got xs at x (omega arith) c.index-sets-at.is in
    step (set_faults code r c.args.table) nat_eq (λ s. s.column) (set_passed code r c.args.table) xs at c.args.line c.loop-at.line c.in_ok-line.line x c.in_ok-is_new.is_new c.loop-at.columns c.add.new.self here c.loop-at.invariant
    (c.in_ok-is_new.ensures.answer ∙ ap (λ s. is_new nat_eq s.column c.loop-at.columns) (sym c.index-sets-at.is))
    (c.in_ok-is_new.ensures.after ∙ ap (λ s. with_new c.in_ok-is_new.is_new s.column c.loop-at.columns) (sym c.index-sets-at.is)) c.in_ok-line.ensures
