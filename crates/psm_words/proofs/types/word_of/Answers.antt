use Rattle.psm_words.proofs.TypeLaws.{numeric_written}
use Rattle.psm_words.proofs.types.word_of.Goals as goal

pub returns-in-Numeric : goal.returns-in-Numeric
returns-in-Numeric c = numeric_written c.format.result c.args.kind c.in-Numeric.p c.in-Numeric.s c.in-Numeric.is c.format.ensures.ok
