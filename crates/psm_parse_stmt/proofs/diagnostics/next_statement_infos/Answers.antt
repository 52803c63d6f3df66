use Rattle.std.proofs.Common.{rules, ◌≡◌, ◌-◌, false}
use Rattle.psm_token.specs.Kinds.{kind}
use Rattle.psm_grammar.specs.Readers.{first, starts}
use Rattle.psm_tree.specs.StatementGrammar.{next_statement_info, next_statement_infos}
use Rattle.psm_tree.proofs.Firsts.{first_next_statement_info}
use Rattle.psm_tree.proofs.Repeating.{turns_end, turns_run_out}
use Rattle.psm_parse_stmt.proofs.diagnostics.next_statement_infos.Goals.{else-loop-turn-test, then-loop-turn-test+then-not-at_sign}
use Rattle.psm_parse_stmt.proofs.diagnostics.next_statement_infos.Goals as goal

pub returns : goal.returns
unfolding next_statement_infos
returns c = rw c.of.ensures (elim c.loop-turn-test.branch [
  | else-loop-turn-test w ↦ (let over : c.left-turn-end.result - c.loop-turn._turn ≡ 0 = search rules in
      turns_run_out c.args.levels next_statement_info c.args.tokens.now.rest.now c.loop-turn.informations.items (c.left-turn-end.result - c.loop-turn._turn) c.loop-turn.tokens.rest.now c.loop-turn.invariant over)
  | then-loop-turn-test+then-not-at_sign w ↦ (let away : starts kind (first next_statement_info) c.loop-turn.tokens.rest.now ≡ false = rw first_next_statement_info (search rules) in
      turns_end c.args.levels next_statement_info c.args.tokens.now.rest.now c.loop-turn.informations.items (c.left-turn-end.result - c.loop-turn._turn) c.loop-turn.tokens.rest.now c.loop-turn.invariant away)
])
