use Rattle.std.specs.Prelude.{string_bytes}
use Rattle.std.proofs.lemmas.Str.{IsUtf8-string_bytes}
use Rattle.psm_words.proofs.Characters.{pushed_ok}
use Rattle.psm_words.proofs.quoting.push.Goals as goal

pub returns : goal.returns
returns c = pushed_ok c.push.result (string_bytes c.args.text.now) (string_bytes c.push.new.self) c.args.c c.push.ensures.bytes (IsUtf8-string_bytes c.args.text.now) c.ranges.c.0
