use Rattle.std.proofs.Common.{◌≡◌, ◌≤◌, length, drop, List}
use Rattle.std.specs.Prelude.{true}
use Rattle.psm_scope.specs.Choice.{Candidate, narrowed}
use Rattle.psm_scope.specs.Blocks.{IsBlock, members, set_of}
use Rattle.psm_scope.proofs.blocks.Block.narrowed.Given as goal

abbrev pub invariant-loop-index : goal.invariant-loop-index
invariant-loop-index l = record {
  members : (cs : List Candidate) → IsBlock cs l.self → l.set ≤ set_of (λ c. true) cs → narrowed l.index (drop l.index l.args) (members l.stay cs) ≡ narrowed 0 l.args (members l.set cs);
  within : l.stay ≤ l.set;
}
