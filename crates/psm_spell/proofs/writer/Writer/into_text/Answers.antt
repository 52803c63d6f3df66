use Rattle.std.proofs.Common.{true, ◌∙◌, ap}
use Rattle.psm_spell.specs.declared.gaps.Gaps.{Gaps}
use Rattle.psm_spell.specs.Gaps.{written_with}
use Rattle.psm_spell.specs.Written.{written}
use Rattle.psm_spell.proofs.Spacing.{after_written}
use Rattle.psm_spell.proofs.writer.Writer.into_text.Goals as goal

pub returns-clause-text : goal.returns-clause-text
returns-clause-text c =
    c.into_text.ensures.text ∙ ap (λ (g : Gaps). written_with g c.self.inside.writer.tokens) c.self.invariant ∙ after_written true c.self.inside.writer.tokens ∙ ap written c.self.view_is
