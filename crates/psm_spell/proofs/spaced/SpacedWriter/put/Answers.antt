use Rattle.std.proofs.Common.{◌∙◌, ap, string_bytes}
use Rattle.std.specs.Str.{chars}
use Rattle.std.proofs.lemmas.Str.{IsUtf8-string_bytes}
use Rattle.psm_spell.specs.Parts.{token_of}
use Rattle.psm_spell.proofs.Pushing.{written_more, open_more}
use Rattle.psm_spell.proofs.spaced.SpacedWriter.put.Goals as goal

pub invariant_of-self-2 : goal.invariant_of-self-2
invariant_of-self-2 c = (
  written_more c.self.inside.gaps c.self.inside.tight (string_bytes c.self.inside.text) (string_bytes c.push_str.new.self) c.as_str.result.now c.self.inside.log.tokens c.and-self-inside.result.tokens (token_of c.args.part.now)
      c.in_ok-push_str.ensures.bytes (IsUtf8-string_bytes c.self.inside.text) c.self.invariant.0 c.self.invariant.1 (ap chars c.as_str.ensures.value ∙ c.in_ok-spelled.ensures) c.and-self-inside.ensures,
  open_more c.is_open-self-inside.result c.self.inside.log.tokens c.and-self-inside.result.tokens (token_of c.args.part.now) c.is_open-self-inside.ensures c.and-self-inside.ensures,
)
