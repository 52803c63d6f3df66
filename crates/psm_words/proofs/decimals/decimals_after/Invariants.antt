use Rattle.std.proofs.Common.{◌≡◌, ◌^◌, ◌<◌, ◌≤◌, drop}
use Rattle.psm_words.specs.Reading.{decimals_on}
use Rattle.psm_words.proofs.decimals.decimals_after.Given as goal

abbrev pub invariant-loop-at : goal.invariant-loop-at
invariant-loop-at l = record {
  reading : decimals_on l.n l.decimals (drop l.at l.text) ≡ decimals_on l.before 0 l.text;
  digits : l.n < 10 ^ 18;
  room : l.decimals ≤ 18;
}
