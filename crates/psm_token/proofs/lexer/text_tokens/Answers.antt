use Rattle.std.proofs.Common.{rules, arith, ◌≢◌, length}
use Rattle.std.specs.Str.{chars}
use Rattle.psm_token.specs.Fronts.{front_of}
use Rattle.psm_token.proofs.Reaching.{reaches_start, reaches_gap, reaches_one, gap_read, one_read, token_moves}
use Rattle.psm_token.proofs.Utf8.{start_room}
use Rattle.psm_token.proofs.lexer.text_tokens.Goals as goal

pub loop-items-init : goal.loop-items-init
loop-items-init c = (search rules, reaches_start c.args.text.now c.new-items.result.items c.utf8.text c.new-items.ensures.items, start_room c.args.text.now (length c.args.text.now) c.utf8.text (omega arith) c.requires)

pub loop-items-preserved-in-Gap : goal.loop-items-preserved-in-Gap
loop-items-preserved-in-Gap c = (
  search rules,
  reaches_gap c.args.text.now c.loop-items.items.items c.loop-items.after_name c.loop-items.place c.advanced.result.0 (chars c.loop-items.rest.now) (chars c.advanced.result.1.now) c.in-Gap.size
      c.loop-items.invariant.1
      (gap_read (front_of c.loop-items.after_name (chars c.loop-items.rest.now)) (chars c.loop-items.rest.now) c.loop-items.place c.in_ok-piece_at.field-0 c.in-Gap.size c.in-Gap.is c.in_ok-piece_at.ensures)
      c.advanced.ensures.place c.advanced.ensures.rest,
  c.advanced.ensures.room,
)

pub loop-items-smaller : goal.loop-items-smaller
loop-items-smaller c =
    let m = token_moves c.loop-items.after_name (chars c.loop-items.rest.now) c.in-One.size c.in-One.token
    (one_read (front_of c.loop-items.after_name (chars c.loop-items.rest.now)) (chars c.loop-items.rest.now) c.loop-items.place c.in_ok-piece_at.field-0 c.in-One.size c.in-One.token c.in-One.is c.in_ok-piece_at.ensures) in
    c.advanced-in-One.ensures.moves m.0 m.1

pub loop-items-preserved : goal.loop-items-preserved
loop-items-preserved c = (
  search rules,
  reaches_one c.args.text.now c.loop-items.items.items c.push.new.self.items c.loop-items.after_name c.is_name-after_name.result c.loop-items.place c.advanced-in-One.result.0 (chars c.loop-items.rest.now) (chars c.advanced-in-One.result.1.now) c.in-One.size c.in-One.token
      c.loop-items.invariant.1
      (one_read (front_of c.loop-items.after_name (chars c.loop-items.rest.now)) (chars c.loop-items.rest.now) c.loop-items.place c.in_ok-piece_at.field-0 c.in-One.size c.in-One.token c.in-One.is c.in_ok-piece_at.ensures)
      (let few : length c.loop-items.items.items ≢ 2000000 = grind arith in few)
      c.in_ok-push-in-One.ensures.items c.is_name-after_name.ensures
      c.advanced-in-One.ensures.place c.advanced-in-One.ensures.rest,
  c.advanced-in-One.ensures.room,
)
