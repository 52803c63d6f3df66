use Rattle.psm_words.proofs.QuotedLaws.{quoted_again, quoted_takes}
use Rattle.psm_words.proofs.laws.quoted_texts_have_one_spelling.Goals as goal

pub returns : goal.returns
returns c = record {
  again = quoted_again;
  takes = quoted_takes;
}
