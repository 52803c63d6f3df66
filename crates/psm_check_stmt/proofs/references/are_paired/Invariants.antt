use Rattle.std.proofs.Common.{◌≡◌, drop}
use Rattle.psm_rules.specs.FileFaults.{are_paired}
use Rattle.psm_check_stmt.specs.KeyLists.{spelled}
use Rattle.psm_check_stmt.proofs.references.are_paired.Given as goal

abbrev pub invariant-loop-number : goal.invariant-loop-number
invariant-loop-number l = are_paired l.own (spelled (drop l.number l.from)) l.others (spelled (drop l.number l.target)) ≡ are_paired l.own (spelled l.from) l.others (spelled l.target)
