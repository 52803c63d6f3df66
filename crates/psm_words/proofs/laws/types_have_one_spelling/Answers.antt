use Rattle.psm_words.proofs.TypeLaws.{type_again, type_takes}
use Rattle.psm_words.proofs.laws.types_have_one_spelling.Goals as goal

pub returns : goal.returns
returns c = record {
  again = type_again;
  takes = type_takes;
}
