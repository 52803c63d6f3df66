use Rattle.std.proofs.Common.{◌≡◌, drop}
use Rattle.psm_rules.specs.FileFaults.{keys_of, table_elements}
use Rattle.psm_check_stmt.specs.Keys.{NoKey, and_keys, kept}
use Rattle.psm_check_stmt.proofs.tables.keys_of.Given as goal

abbrev pub invariant-loop-element : goal.invariant-loop-element
invariant-loop-element l = and_keys (kept l.keys) (keys_of (drop l.element-index l.element-items)) ≡ and_keys NoKey (keys_of (table_elements l.table))
