use Rattle.std.proofs.Common.{◌≡◌, ◌++◌, [], drop, map}
use Rattle.psm_list.specs.Several.{several_map}
use Rattle.psm_token.specs.declared.sign.Sign.TheVariants as s
use Rattle.psm_print.specs.Spelling.{sign, each, separated, listed}
use Rattle.psm_print.specs.ExprTokens.{expr_tokens, logical_operator_tokens, chain_link_tokens, when_tokens, pick_tokens}
use Rattle.psm_print.proofs.Listing.{left}
use Rattle.psm_print.proofs.exprs.+printing.Given as goal

abbrev pub invariant-sources-loop-item : goal.invariant-sources-loop-item
invariant-sources-loop-item l = l.out ++ each (sign s.Comma) (map expr_tokens (drop l.item-index l.item-items)) ≡ l.fn.out ++ separated (sign s.Comma) (several_map expr_tokens l.items)

abbrev pub invariant-joined-loop-item : goal.invariant-joined-loop-item
invariant-joined-loop-item l = l.out ++ each (logical_operator_tokens l.by) (map expr_tokens (drop l.item-index l.item-items)) ≡ l.fn.out ++ separated (logical_operator_tokens l.by) (several_map expr_tokens l.items)

abbrev pub invariant-chain_links-loop-chain_link : goal.invariant-chain_links-loop-chain_link
invariant-chain_links-loop-chain_link l = l.out ++ each [] (map chain_link_tokens (drop l.chain_link-index l.chain_link-items)) ≡ l.fn.out ++ each [] (map chain_link_tokens l.chain_links)

abbrev pub invariant-listed-loop-item : goal.invariant-listed-loop-item
invariant-listed-loop-item l = l.out ++ left l.first (map expr_tokens (drop l.item-index l.item-items)) ≡ l.fn.out ++ listed (map expr_tokens l.items)

abbrev pub invariant-picks-loop-item : goal.invariant-picks-loop-item
invariant-picks-loop-item l = l.out ++ each (sign s.Comma) (map pick_tokens (drop l.item-index l.item-items)) ≡ l.fn.out ++ separated (sign s.Comma) (several_map pick_tokens l.picks)

abbrev pub invariant-whens-loop-next : goal.invariant-whens-loop-next
invariant-whens-loop-next l = l.out ++ each [] (map when_tokens (drop l.next-index l.next-items)) ≡ l.fn.out ++ separated [] (several_map when_tokens l.whens)
