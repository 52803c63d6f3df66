use Rattle.std.proofs.Common.{◌≡◌, ◌++◌, drop, map}
use Rattle.psm_list.specs.Several.{several_map}
use Rattle.psm_token.specs.declared.word.Word.TheVariants as w
use Rattle.psm_print.specs.Spelling.{word, each, separated, ended, all_of}
use Rattle.psm_print.specs.StatementTokens.{branch_tokens, handler_tokens, statement_tokens}
use Rattle.psm_print.proofs.statements.+statements.Given as goal

abbrev pub invariant-statements-loop-item : goal.invariant-statements-loop-item
invariant-statements-loop-item l = l.out ++ ended (map statement_tokens (drop l.item-index l.item-items)) ≡ l.fn.out ++ ended (map statement_tokens l.items)

abbrev pub invariant-otherwise_statements-loop-item : goal.invariant-otherwise_statements-loop-item
invariant-otherwise_statements-loop-item l = l.out ++ ended (map statement_tokens (drop l.item-index l.item-items)) ≡ l.fn.out ++ word w.Else ++ ended (map statement_tokens l.items)

abbrev pub invariant-branches-loop-item : goal.invariant-branches-loop-item
invariant-branches-loop-item l = l.out ++ each (word l.between) (map branch_tokens (drop l.item-index l.item-items)) ≡ l.fn.out ++ separated (word l.between) (several_map branch_tokens l.items)

abbrev pub invariant-handlers-loop-item : goal.invariant-handlers-loop-item
invariant-handlers-loop-item l = l.out ++ ended (map handler_tokens (drop l.item-index l.item-items)) ≡ l.fn.out ++ ended (map handler_tokens l.items)

abbrev pub invariant-all_statements-loop-item : goal.invariant-all_statements-loop-item
invariant-all_statements-loop-item l = l.out ++ ended (map statement_tokens (drop l.item-index l.item-items)) ≡ l.fn.out ++ ended (all_of (several_map statement_tokens l.items))
