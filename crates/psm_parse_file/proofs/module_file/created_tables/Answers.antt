use Rattle.std.proofs.Common.{rules, ◌≡◌, ◌≤◌, ◌+◌, ◌-◌, [], ◌∷◌, true, arith}
use Rattle.std.proofs.lemmas.Result.{err_from_is_err_and}
use Rattle.psm_token.specs.Kinds.{kind}
use Rattle.psm_token.specs.Words.{word_kind}
use Rattle.psm_token.specs.declared.word.Word.TheVariants as w
use Rattle.psm_grammar.specs.Readers.{starts}
use Rattle.psm_parse_file.proofs.Creating.{creating_go_on, creating_end, creating_run_out, creating_halt}
use Rattle.psm_parse_file.proofs.module_file.created_tables.Goals as goal
use Rattle.psm_parse_file.proofs.module_file.created_tables.Goals.{else-loop-turn-test, then-loop-turn-test+then-not-at}

pub returns-in_err-name : goal.returns-in_err-name
returns-in_err-name c =
    let p = err_from_is_err_and c.from_residual.result c.from_residual.ensures.1 in
    let left : 1 ≤ c.left-turn-end.result - c.loop-turn._turn = omega (arith, c.loop-turn-test.true) in
    let begins : starts kind (word_kind w.Table ∷ []) c.loop-turn.tokens.rest.now ≡ true = search rules in
    rw (p.1, p.2) (creating_halt c.args.levels c.args.place c.args.tokens.now.rest.now c.loop-turn.tables.items c.loop-turn.place (c.left-turn-end.result - c.loop-turn._turn) c.loop-turn.tokens.rest.now c.loop-turn.invariant
    c.in_err-name.field-0.0 left begins c.in_err-name.ensures)

pub loop-turn-preserved : goal.loop-turn-preserved
loop-turn-preserved c =
    let left : c.left-turn-end.result - (c.loop-turn._turn + 1) + 1 ≡ c.left-turn-end.result - c.loop-turn._turn = omega (arith, c.loop-turn-test.true) in
    let begins : starts kind (word_kind w.Table ∷ []) c.loop-turn.tokens.rest.now ≡ true = search rules in
    rw (c.in_ok-push.ensures.items, c.into_inner.ensures) (creating_go_on c.args.levels c.args.place c.args.tokens.now.rest.now c.loop-turn.tables.items c.loop-turn.place (c.left-turn-end.result - c.loop-turn._turn) c.loop-turn.tokens.rest.now c.loop-turn.invariant
    (c.left-turn-end.result - (c.loop-turn._turn + 1)) (record { name = c.in_ok-name.name; elements = c.in_ok-name.elements }, c.in_ok-name.following) c.created_table.new.tokens.rest.now left begins c.in_ok-name.ensures)

pub returns : goal.returns
returns c = rw c.of.ensures (elim c.loop-turn-test.branch [
  | else-loop-turn-test w ↦ creating_run_out c.args.levels c.args.place c.args.tokens.now.rest.now c.loop-turn.tables.items c.loop-turn.place (c.left-turn-end.result - c.loop-turn._turn) c.loop-turn.tokens.rest.now c.loop-turn.invariant (omega (arith, w.loop-turn-test.false))
  | then-loop-turn-test+then-not-at w ↦ creating_end c.args.levels c.args.place c.args.tokens.now.rest.now c.loop-turn.tables.items c.loop-turn.place (c.left-turn-end.result - c.loop-turn._turn) c.loop-turn.tokens.rest.now c.loop-turn.invariant (search rules)
])
