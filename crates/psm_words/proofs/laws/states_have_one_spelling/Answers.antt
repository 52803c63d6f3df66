use Rattle.psm_words.proofs.StateLaws.{state_again, state_takes}
use Rattle.psm_words.proofs.laws.states_have_one_spelling.Goals as goal

pub returns : goal.returns
returns c = record {
  again = state_again;
  takes = state_takes;
}
