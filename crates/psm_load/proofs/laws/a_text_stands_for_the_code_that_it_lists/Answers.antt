use Rattle.std.proofs.Common.{ap, ◌∙◌}
use Rattle.psm_load.proofs.Misfits.{first_misfit_is, misfit_of}
use Rattle.psm_load.proofs.Objects.{stated_again, stated_takes}
use Rattle.psm_load.proofs.laws.a_text_stands_for_the_code_that_it_lists.Goals as goal

pub returns : goal.returns
returns c = record {
  again = stated_again;
  takes = stated_takes;
  misfits = λ text n e. first_misfit_is text ∙ ap misfit_of e;
  fits = λ text s e. first_misfit_is text ∙ ap misfit_of e;
}
