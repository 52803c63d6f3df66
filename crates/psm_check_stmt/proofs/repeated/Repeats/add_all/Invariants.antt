use Rattle.std.proofs.Common.{◌≡◌, take}
use Rattle.psm_check_stmt.specs.Listed.{with_names}
use Rattle.psm_check_stmt.proofs.repeated.Repeats.add_all.Given as goal

abbrev pub invariant-loop-name : goal.invariant-loop-name
invariant-loop-name l = l.self ≡ with_names l.fn.self (take l.name-index l.names)
