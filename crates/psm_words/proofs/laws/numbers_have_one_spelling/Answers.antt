use Rattle.psm_words.proofs.NumberLaws.{number_again, number_takes}
use Rattle.psm_words.proofs.laws.numbers_have_one_spelling.Goals as goal

pub returns : goal.returns
returns c = record {
  again = number_again;
  takes = number_takes;
}
