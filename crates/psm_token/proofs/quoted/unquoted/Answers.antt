use Rattle.std.proofs.Common.{rules, arith, string_bytes}
use Rattle.std.specs.Str.{chars}
use Rattle.psm_token.proofs.Quoting.{kept_start}
use Rattle.psm_token.proofs.Utf8.{chars_none}
use Rattle.psm_token.proofs.quoted.unquoted.Goals as goal

pub loop-kept-init : goal.loop-kept-init
loop-kept-init c = (search rules, kept_start c.args.quote c.args.limit (chars c.args.rest.now) (chars (string_bytes c.new-kept.result)) (chars_none (string_bytes c.new-kept.result) c.new-kept.ensures.bytes), omega arith, omega arith)
