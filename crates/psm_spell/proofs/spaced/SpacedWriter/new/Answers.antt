use Rattle.std.proofs.Common.{true, ◌∙◌, ap, sym}
use Rattle.std.specs.Prelude.{string_bytes}
use Rattle.psm_token.proofs.Utf8.{chars_none}
use Rattle.psm_spell.specs.Gaps.{are_open, written_with}
use Rattle.psm_spell.proofs.spaced.SpacedWriter.new.Goals as goal

pub invariant_of-result : goal.invariant_of-result
invariant_of-result c = (chars_none (string_bytes c.new.result) c.new.ensures.bytes ∙ sym (ap (written_with c.args.gaps) c.new-2.ensures), sym (ap (are_open true) c.new-2.ensures))
