use Rattle.std.proofs.Common.{◌∙◌, ap}
use Rattle.std.specs.Str.{chars}
use Rattle.psm_token.specs.Numbers.{literal_at}
use Rattle.psm_token.proofs.Runs.{literal_spelled, number_ok, number_err}
use Rattle.psm_token.proofs.piece.number_at.Goals as goal

pub returns-in-Ok : goal.returns-in-Ok
returns-in-Ok c = number_ok (literal_at (chars c.args.rest.now)) c.in-Ok.number (c.in-Ok.ensures.exact (literal_at (chars c.args.rest.now))
    (literal_spelled c.as_str.result.now (chars c.args.rest.now) c.args.size c.as_str.utf8 (ap chars c.as_str.ensures.value ∙ c.in_ok-text.ensures) c.requires.whole c.requires.some))

pub returns : goal.returns
returns c = number_err (literal_at (chars c.args.rest.now)) c.in-Err.field-0 (c.in-Err.ensures.exact (literal_at (chars c.args.rest.now))
    (literal_spelled c.as_str.result.now (chars c.args.rest.now) c.args.size c.as_str.utf8 (ap chars c.as_str.ensures.value ∙ c.in_ok-text.ensures) c.requires.whole c.requires.some))
