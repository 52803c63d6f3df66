use Rattle.std.proofs.Common.{◌≡◌, ◌++◌, drop, map}
use Rattle.psm_declare.proofs.numbering.copied_names.Given as goal

abbrev pub invariant-loop-name : goal.invariant-loop-name
invariant-loop-name l = l.copies.items ++ map (λ n. n.now) (drop l.name-index l.names) ≡ map (λ n. n.now) l.names
