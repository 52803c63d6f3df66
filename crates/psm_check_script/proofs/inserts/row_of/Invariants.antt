use Rattle.std.proofs.Common.{◌≡◌, ◌++◌, drop, map}
use Rattle.psm_check_script.specs.Commands.{row_of, value_of}
use Rattle.psm_check_script.proofs.inserts.row_of.Given as goal

abbrev pub invariant-loop-constant : goal.invariant-loop-constant
invariant-loop-constant l = l.values.items ++ map value_of (drop l.constant-index l.row.values.rest) ≡ row_of l.row
