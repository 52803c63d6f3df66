use Rattle.std.proofs.Common.{◌≡◌, ◌++◌, drop}
use Rattle.psm_rules.specs.FileFaults.{names_of}
use Rattle.psm_rules.specs.StatementFaults.{several}
use Rattle.psm_check_stmt.specs.KeyLists.{spelled}
use Rattle.psm_check_stmt.proofs.key_lists.names_of.Given as goal

abbrev pub invariant-loop-name : goal.invariant-loop-name
invariant-loop-name l = spelled l.listed.items ++ names_of (drop l.name-index l.names.rest) ≡ names_of (several l.names)
