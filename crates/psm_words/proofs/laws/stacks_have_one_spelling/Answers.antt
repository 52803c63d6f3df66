use Rattle.psm_words.proofs.StackLaws.{stack_again, stack_takes}
use Rattle.psm_words.proofs.laws.stacks_have_one_spelling.Goals as goal

pub returns : goal.returns
returns c = record {
  again = stack_again;
  takes = stack_takes;
}
