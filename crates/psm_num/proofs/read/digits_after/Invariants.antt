use Rattle.std.proofs.Common.{◌≡◌, ◌+◌, ◌*◌, ◌^◌, ◌≤◌, drop}
use Rattle.std.specs.Str.Parse.{digits_value_after}
use Rattle.psm_num.proofs.read.digits_after.Given as goal

abbrev pub invariant-loop-digit : goal.invariant-loop-digit
invariant-loop-digit l = record {
  value : digits_value_after 10 l.number l.digits ≡ digits_value_after 10 l.spelled (drop l.digit-index l.digits);
  size : l.spelled + 1 ≤ (l.number + 1) * 10 ^ l.digit-index;
}
