use Rattle.std.proofs.Common.{refl}
use Rattle.std.specs.Str.{chars}
use Rattle.psm_token.proofs.Keeping.{first_kept, text_kept, text_long}
use Rattle.psm_token.proofs.piece.read_text.Goals as goal

pub returns-in-Ok : goal.returns-in-Ok
returns-in-Ok c = text_kept (chars c.args.rest.now) c.as_str.result.now c.in-Ok.text c.in-Some.size
    (first_kept 39 (chars c.args.rest.now) 4001 c.in-Some.size c.in_ok-quoted.field-0 c.in-Some.kept c.as_str.result.now c.in-Some.is c.in_ok-quoted.ensures c.as_str.ensures.value) c.in-Ok.ensures.answer

pub returns-in-Err-TooLong : goal.returns-in-Err-TooLong
returns-in-Err-TooLong c = (
  text_long (chars c.args.rest.now) c.as_str.result.now c.in-Some.size
      (first_kept 39 (chars c.args.rest.now) 4001 c.in-Some.size c.in_ok-quoted.field-0 c.in-Some.kept c.as_str.result.now c.in-Some.is c.in_ok-quoted.ensures c.as_str.ensures.value) (rw c.in-Err-TooLong.field-0-is at c.in-Err-TooLong.ensures.answer),
  refl,
)
