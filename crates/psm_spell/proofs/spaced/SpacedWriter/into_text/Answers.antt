use Rattle.std.proofs.Common.{◌∙◌, ap}
use Rattle.std.specs.Prelude.{string_bytes}
use Rattle.std.proofs.lemmas.Str.{IsUtf8-string_bytes}
use Rattle.psm_spell.specs.Gaps.{Laid, written_with}
use Rattle.psm_spell.proofs.Files.{written_file}
use Rattle.psm_spell.proofs.spaced.SpacedWriter.into_text.Goals as goal

pub returns-clause-file : goal.returns-clause-file
returns-clause-file c =
    written_file c.args.self.gaps (string_bytes c.self.inside.text) c.args.self.tokens (IsUtf8-string_bytes c.self.inside.text)
    (c.self.invariant.0 ∙ ap (λ (l : Laid). written_with l.gaps l.tokens) c.self.view_is)
