use Rattle.std.proofs.Common.{rules, ◌≡◌, ◌+◌, ◌-◌, [], ◌∷◌, true, false, Ok}
use Rattle.std.proofs.lemmas.Result.{err_from_is_err_and}
use Rattle.psm_token.specs.declared.word.Word.TheVariants as w
use Rattle.psm_token.specs.Kinds.{kind}
use Rattle.psm_token.specs.Words.{word_kind}
use Rattle.psm_grammar.specs.Readers.{starts}
use Rattle.psm_parse_stmt.specs.Declaring.{declaration_item, phase_of, stage_after, Adds}
use Rattle.psm_parse_stmt.proofs.Declaring.{declares_go_on, declares_end, declares_run_out, declares_halt}
use Rattle.psm_parse_stmt.proofs.+statements.Goals.{declare::declarations-else-loop-turn-test, declare::declarations-then-loop-turn-test+then-not-at}
use Rattle.psm_parse_stmt.proofs.+statements.Goals as goal

pub declare::declarations-returns-in_err-item : goal.declare::declarations-returns-in_err-item
declare::declarations-returns-in_err-item t c =
    let p = err_from_is_err_and c.from_residual.result c.from_residual.ensures.1 in
    let starts_so : starts kind (word_kind w.Declare ∷ []) c.loop-turn.tokens.rest.now ≡ true = search rules in
    rw (p.1, p.2) (declares_halt c.args.levels c.args.tokens.now.rest.now c.loop-turn.stage c.loop-turn.heads (c.left-turn-end.result - c.loop-turn._turn) c.loop-turn.tokens.rest.now c.in_err-item.field-0.0
    c.loop-turn.invariant starts_so c.in_err-item.ensures)

pub declare::declarations-loop-turn-preserved : goal.declare::declarations-loop-turn-preserved
declare::declarations-loop-turn-preserved t c =
    let starts_so : starts kind (word_kind w.Declare ∷ []) c.loop-turn.tokens.rest.now ≡ true = search rules in
    let count : c.left-turn-end.result - (c.loop-turn._turn + 1) + 1 ≡ c.left-turn-end.result - c.loop-turn._turn = search rules in
    let read_so : declaration_item (phase_of c.loop-turn.stage) c.args.levels c.loop-turn.tokens.rest.now ≡ Ok (c.in_ok-item.item, c.declaration.new.tokens.rest.now) = search rules in
    let staged : c.stage_after-stage.result ≡ stage_after c.in_ok-item.item = search rules in
    let added : Adds c.loop-turn.heads c.in_ok-item.item c.add.new.self = search rules in
    declares_go_on c.args.levels c.args.tokens.now.rest.now c.loop-turn.stage c.loop-turn.heads (c.left-turn-end.result - c.loop-turn._turn) (c.left-turn-end.result - (c.loop-turn._turn + 1)) c.loop-turn.tokens.rest.now
    c.in_ok-item.item c.declaration.new.tokens.rest.now c.add.new.self c.stage_after-stage.result c.loop-turn.invariant count starts_so read_so staged added

pub declare::declarations-returns : goal.declare::declarations-returns
declare::declarations-returns t c = elim c.loop-turn-test.branch [
  | declare::declarations-else-loop-turn-test on ↦ (let over : c.left-turn-end.result - c.loop-turn._turn ≡ 0 = search rules in
      declares_run_out c.args.levels c.args.tokens.now.rest.now c.loop-turn.stage c.loop-turn.heads (c.left-turn-end.result - c.loop-turn._turn) c.loop-turn.tokens.rest.now c.loop-turn.invariant over)
  | declare::declarations-then-loop-turn-test+then-not-at on ↦ (let away : starts kind (word_kind w.Declare ∷ []) c.loop-turn.tokens.rest.now ≡ false = search rules in
      declares_end c.args.levels c.args.tokens.now.rest.now c.loop-turn.stage c.loop-turn.heads (c.left-turn-end.result - c.loop-turn._turn) c.loop-turn.tokens.rest.now c.loop-turn.invariant away)
]
