use Rattle.std.proofs.Common.{◌≡◌, ◌++◌, drop, map}
use Rattle.psm_token.specs.declared.sign.Sign.TheVariants as s
use Rattle.psm_print.specs.Spelling.{sign, each}
use Rattle.psm_print.specs.StatementTokens.{column_order_tokens, order_tokens}
use Rattle.psm_print.proofs.parts.order.Given as goal

abbrev pub invariant-loop-next : goal.invariant-loop-next
invariant-loop-next l = l.out ++ each (sign s.Comma) (map column_order_tokens (drop l.next-index l.next-items)) ≡ l.fn.out ++ order_tokens l.order
