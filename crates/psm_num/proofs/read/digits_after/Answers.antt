use Rattle.std.proofs.Common.{◌∙◌, ◌+◌, ◌*◌, ◌^◌, ◌≤◌, get_or, length, arith}
use Rattle.psm_num.proofs.Digits.{digit_from, value_step, size_step, size_fits}
use Rattle.psm_num.proofs.read.digits_after.Goals as goal

pub overflow_mul-spelled : goal.overflow_mul-spelled
overflow_mul-spelled c =
    let h : c.loop-digit.spelled * 10 + 10 ≤ 10 ^ 18 = size_fits c.args.number c.loop-digit.spelled c.loop-digit.digit-index (length c.args.digits.now) c.loop-digit-test.true c.loop-digit.invariant.size c.requires.small in
    omega (arith, h)

pub overflow_add-spelled : goal.overflow_add-spelled
overflow_add-spelled c =
    let h : c.loop-digit.spelled * 10 + 10 ≤ 10 ^ 18 = size_fits c.args.number c.loop-digit.spelled c.loop-digit.digit-index (length c.args.digits.now) c.loop-digit-test.true c.loop-digit.invariant.size c.requires.small in
    let r : (48 ≤ get_or c.args.digits.now c.loop-digit.digit-index 0) × (get_or c.args.digits.now c.loop-digit.digit-index 0 ≤ 57) = digit_from c.args.digits.now c.loop-digit.digit-index c.requires.digits c.loop-digit-test.true in
    omega (arith, h, r.0, r.1)

pub loop-digit-preserved : goal.loop-digit-preserved
loop-digit-preserved c = record {
  value = c.loop-digit.invariant.value ∙ value_step c.loop-digit.spelled c.loop-digit.digit-index c.args.digits.now c.requires.digits c.loop-digit-test.true;
  size = size_step c.args.number c.loop-digit.spelled c.loop-digit.digit-index c.args.digits.now c.requires.digits c.loop-digit-test.true c.loop-digit.invariant.size;
}
