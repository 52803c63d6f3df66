use Rattle.std.proofs.Common.{◌≡◌, map}
use Rattle.psm_dml.specs.declared.planning.Change.{Change}
use Rattle.psm_dml.proofs.planning.split.Given as goal

abbrev pub invariant-loop-change : goal.invariant-loop-change
invariant-loop-change l = record {
  keys : l.keys.items ≡ map (λ (c : Change). c.key) l.yielded;
  rows : l.rows.items ≡ map (λ (c : Change). c.made) l.yielded;
}
