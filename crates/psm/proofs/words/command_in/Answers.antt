use Rattle.psm.proofs.Numbers.{few_words}
use Rattle.psm.proofs.words.command_in.Goals as goal

pub returns-in_default-clause-form : goal.returns-in_default-clause-form
returns-in_default-clause-form c = few_words c.args.words.now c.in_default.len_below
