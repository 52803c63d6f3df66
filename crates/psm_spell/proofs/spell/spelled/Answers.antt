use Rattle.std.proofs.Common.{ℕ, Bool, Option, ◌++◌, ◌∙◌, ap, string_bytes}
use Rattle.std.specs.Str.{chars}
use Rattle.psm_spell.specs.Parts.{token_of}
use Rattle.psm_spell.specs.Gaps.{blank_if, has_blank, gap_after, listed}
use Rattle.psm_spell.specs.Written.{token_text}
use Rattle.psm_spell.proofs.Pushing.{spelled_so}
use Rattle.psm_spell.proofs.spell.spelled.Goals as goal

pub returns : goal.returns
returns c =
    spelled_so (string_bytes c.new-text.result) (chars (string_bytes c.push_blank.new.text)) (chars (string_bytes c.push_token.new.text)) (chars (string_bytes c.push_gap.new.text))
    (blank_if (has_blank c.args.gaps c.args.tight (token_of c.args.part.now))) (token_text (token_of c.args.part.now)) (listed (gap_after c.args.gaps (token_of c.args.part.now)))
    c.new-text.ensures.bytes
    (c.in_ok-push_blank.ensures ∙ ap (λ (b : Bool). chars (string_bytes c.new-text.result) ++ blank_if b) c.has_blank.ensures)
    c.in_ok-push_token.ensures
    (c.in_ok-push_gap.ensures ∙ ap (λ (o : Option ℕ). chars (string_bytes c.push_token.new.text) ++ listed o) c.gap_after.ensures)
