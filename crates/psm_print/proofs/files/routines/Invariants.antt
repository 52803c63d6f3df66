use Rattle.std.proofs.Common.{◌≡◌, ◌++◌, drop, map}
use Rattle.psm_print.specs.Spelling.{ended}
use Rattle.psm_print.specs.FileTokens.{routine_tokens}
use Rattle.psm_print.proofs.files.routines.Given as goal

abbrev pub invariant-loop-next : goal.invariant-loop-next
invariant-loop-next l = l.out ++ ended (map routine_tokens (drop l.next-index l.next-items)) ≡ l.fn.out ++ ended (map routine_tokens l.routines)
