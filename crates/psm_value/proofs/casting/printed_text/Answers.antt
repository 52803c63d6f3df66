use Rattle.std.proofs.Common.{ℕ, ℤ, ◌^◌, ◌<◌, ◌≤◌, List, Result, unsigned_abs, subst, ◌∙◌, arith}
use Rattle.psm_text.specs.declared.fault.TextFault.{TextFault}
use Rattle.psm_text.specs.Text.{Gives}
use Rattle.psm_value.proofs.Literals.{made_printed}
use Rattle.psm_value.proofs.casting.printed_text.Goals as goal

pub returns : goal.returns
returns c =
    let scale : c.args.number.scale ≤ 18 = omega (arith, c.scale-scale.ensures.value, c.scale-scale.ensures.bound) in
    let digits : unsigned_abs c.args.number.coef < 10 ^ 18 = subst (λ (z : ℤ). unsigned_abs z < 10 ^ 18) c.coef-coef.ensures.value c.coef-coef.ensures.digits in
    let P : Result (List ℕ) TextFault → Type 0 = λ expected. Gives expected c.make.result in
    subst P (made_printed c.args.number c.as_str.result.now scale digits (c.as_str.ensures.value ∙ c.in_ok-digits.ensures)) c.make.ensures.answer
