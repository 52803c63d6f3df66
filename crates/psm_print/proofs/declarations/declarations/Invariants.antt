use Rattle.std.proofs.Common.{◌≡◌, ◌++◌, drop, map}
use Rattle.psm_print.specs.Spelling.{ended}
use Rattle.psm_print.specs.StatementTokens.{declaration_tokens}
use Rattle.psm_print.proofs.declarations.declarations.Given as goal

abbrev pub invariant-loop-next : goal.invariant-loop-next
invariant-loop-next l = l.out ++ ended (map declaration_tokens (drop l.next-index l.next-items)) ≡ l.fn.out ++ ended (map declaration_tokens l.declarations)
