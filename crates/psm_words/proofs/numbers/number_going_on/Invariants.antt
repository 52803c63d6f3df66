use Rattle.std.proofs.Common.{◌≡◌, ◌≤◌, drop}
use Rattle.psm_words.specs.Reading.{number_on}
use Rattle.psm_words.proofs.numbers.number_going_on.Given as goal

abbrev pub invariant-loop-at : goal.invariant-loop-at
invariant-loop-at l = record {
  reading : number_on l.most l.n (drop l.at l.text) ≡ number_on l.most l.before l.text;
  bound : l.n ≤ l.most;
}
