use Rattle.std.proofs.Common.{◌≡◌, ◌<◌, ◌≤◌, ℕ, length, List, ◌∷◌, [], ◌++◌}
use Rattle.std.specs.Prelude.{slice_index_or}
use Rattle.psm_scope.specs.declared.blocks.ParameterSets.{ParameterSets}
use Rattle.psm_scope.specs.Choice.{Candidate}
use Rattle.psm_scope.specs.Blocks.{HasSets, IsBlock}
use Rattle.psm_scope.proofs.blocks.Block.push.Given as goal

abbrev pub invariant-loop-index : goal.invariant-loop-index
invariant-loop-index l = record {
  parameter_sets : length l.self.parameter_sets.items ≡ length l.fn.self.parameter_sets.items;
  numbers : l.self.numbers ≡ l.initial.self.numbers;
  all : l.self.all ≡ l.initial.self.all;
  done : (cs : List Candidate) → IsBlock cs l.fn.self → (p : ℕ) (d : ParameterSets) → p < l.index → HasSets p (cs ++ (l.number, l.kinds) ∷ []) (slice_index_or l.self.parameter_sets.items p d);
  left : (p : ℕ) (d : ParameterSets) → l.index ≤ p → slice_index_or l.self.parameter_sets.items p d ≡ slice_index_or l.fn.self.parameter_sets.items p d;
}
