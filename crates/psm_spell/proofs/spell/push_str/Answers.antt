use Rattle.std.proofs.lemmas.Str.{IsUtf8-string_bytes}
use Rattle.std.specs.Prelude.{string_bytes}
use Rattle.psm_spell.proofs.Pushing.{pushed_text}
use Rattle.psm_spell.proofs.spell.push_str.Goals as goal

pub returns : goal.returns
returns c = pushed_text c.push_str.result (string_bytes c.args.text.now) (string_bytes c.push_str.new.self) c.args.more.now c.push_str.ensures.bytes (IsUtf8-string_bytes c.args.text.now)
