use Rattle.std.proofs.Common.{◌≡◌, ◌∙◌, ap, sym, subst, Some}
use Rattle.std.specs.Prelude.{option_map, IfOk}
use Rattle.psm_verify.specs.Stated.{bare}
use Rattle.psm_verify.proofs.Lining.{fault_is}
use Rattle.psm_verify.proofs.verify_context.VerifyContext.line_fault.Goals as goal

pub returns-in-Some : goal.returns-in-Some
returns-in-Some c =
    subst (λ d. IfOk c.fault.result (λ f. f ≡ d))
    (fault_is c.args.self.now.code.now c.args.self.now.routine.now c.args.at (bare c.in-Some.line) c.as_slice.result.now (sym (ap (option_map bare) c.in-Some.is) ∙ c.stated.ensures) (ap Some c.as_slice.ensures.value ∙ c.in_ok-operands.ensures))
    c.fault.ensures
