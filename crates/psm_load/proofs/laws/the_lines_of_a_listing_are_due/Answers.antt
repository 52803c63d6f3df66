use Rattle.psm_load.proofs.DueLines.{listing_fits}
use Rattle.psm_load.proofs.laws.the_lines_of_a_listing_are_due.Goals as goal

pub returns : goal.returns
returns c = listing_fits
