use Rattle.std.proofs.Common.{◌≡◌, length}
use Rattle.psm_query.specs.Tallies.{added}
use Rattle.psm_query.proofs.Added.{HaveRoom}
use Rattle.psm_query.proofs.gathering.add_all.Given as goal

-- with the values that are left, the tallies evaluate to what all values make of the first
abbrev pub invariant-loop-value : goal.invariant-loop-value
invariant-loop-value l = record {
  so_far : added l.tallies.items l.values.items ≡ added l.initial.tallies.items l.initial.values.items;
  room : HaveRoom (length l.values.items) l.tallies.items;
}

abbrev pub decreases-loop-value : goal.decreases-loop-value
decreases-loop-value l = length l.values.items
