use Rattle.std.proofs.Common.{◌≤◌, arith}
use Rattle.psm_num.proofs.RoundTrip.{literal_for, spells-printed, literal_value-printed, literal_number-printed, literal_number-full}
use Rattle.psm_num.proofs.laws.read_inverts_print.Goals as goal

pub returns : goal.returns
returns c = record {
  value = λ n bound small. (literal_for n, spells-printed n bound small, literal_value-printed n bound small);
  number = λ n below small. let bound : n.scale ≤ 18 = omega arith in (literal_for n, spells-printed n bound small, literal_number-printed n bound small below);
  range = λ n full small. let bound : n.scale ≤ 18 = omega arith in (literal_for n, spells-printed n bound small, literal_number-full n bound small full);
}
