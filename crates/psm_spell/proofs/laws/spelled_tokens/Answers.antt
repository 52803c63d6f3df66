use Rattle.psm_spell.proofs.Spellable.{spells_spellable}
use Rattle.psm_spell.proofs.laws.spelled_tokens.Goals as goal

pub returns-clause-spellable : goal.returns-clause-spellable
returns-clause-spellable c = spells_spellable
