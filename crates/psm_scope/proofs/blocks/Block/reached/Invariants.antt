use Rattle.std.proofs.Common.{◌≡◌, ◌≤◌, length, drop, List}
use Rattle.psm_scope.specs.Choice.{Candidate}
use Rattle.psm_scope.specs.Blocks.{HaveCount, IsBlock, members}
use Rattle.psm_scope.proofs.Narrowed.{going}
use Rattle.psm_scope.proofs.blocks.Block.reached.Given as goal

abbrev pub invariant-loop-index : goal.invariant-loop-index
invariant-loop-index l = record {
  members : (cs : List Candidate) → IsBlock cs l.self → going l.index (drop l.index l.args) (members l.set cs) ≡ going 0 l.args cs;
  within : l.set ≤ l.self.all;
}
