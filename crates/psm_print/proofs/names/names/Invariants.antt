use Rattle.std.proofs.Common.{◌≡◌, ◌++◌, drop, map}
use Rattle.psm_list.specs.Several.{several_map}
use Rattle.psm_token.specs.declared.sign.Sign.TheVariants as s
use Rattle.psm_print.specs.Spelling.{sign, each, separated}
use Rattle.psm_print.specs.ExprTokens.{name_tokens}
use Rattle.psm_print.proofs.names.names.Given as goal

abbrev pub invariant-loop-next : goal.invariant-loop-next
invariant-loop-next l = l.out ++ each (sign s.Comma) (map name_tokens (drop l.next-index l.next-items)) ≡ l.fn.out ++ separated (sign s.Comma) (several_map name_tokens l.names)
