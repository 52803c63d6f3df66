use Rattle.std.proofs.Common.{◌≡◌, ◌++◌, length, map}
use Rattle.psm_keys.specs.Handled.{are_all_new}
use Rattle.psm_keys.proofs.handled_values.HandledSet.add_others.Given as goal

abbrev pub invariant-loop-value : goal.invariant-loop-value
invariant-loop-value l =
    (are_all_new l.fn.self (map (λ v. (l.block, v)) l.values) ≡ are_all_new l.self (map (λ v. (l.block, v)) l.rest)) × (l.self ++ map (λ v. (l.block, v)) l.rest ≡ l.fn.self ++ map (λ v. (l.block, v)) l.values)

abbrev pub decreases-loop-value : goal.decreases-loop-value
decreases-loop-value l = length l.rest
