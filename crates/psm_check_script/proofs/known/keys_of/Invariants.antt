use Rattle.std.proofs.Common.{◌≡◌, [], drop}
use Rattle.psm_check_script.specs.Known.{with_keys}
use Rattle.psm_check_script.proofs.known.keys_of.Given as goal

abbrev pub invariant-loop-table : goal.invariant-loop-table
invariant-loop-table l = with_keys l.keys (drop l.table-index l.tables) ≡ with_keys [] l.tables
