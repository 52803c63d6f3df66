use Rattle.psm_words.proofs.DatumLaws.{datum_again, datum_takes}
use Rattle.psm_words.proofs.laws.data_have_one_spelling.Goals as goal

pub returns : goal.returns
returns c = record {
  again = datum_again;
  takes = datum_takes;
}
