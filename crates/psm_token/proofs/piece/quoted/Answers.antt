use Rattle.std.specs.Str.{chars}
use Rattle.psm_token.proofs.Quoting.{quoted_ok}
use Rattle.psm_token.proofs.piece.quoted.Goals as goal

pub returns : goal.returns
returns c = quoted_ok c.args.quote c.in-Some.field-0-0 c.args.limit (chars c.args.rest.now) (chars c.in-Some.following.now) c.in-Some.ensures.parts c.requires c.unquoted.result c.unquoted.ensures
