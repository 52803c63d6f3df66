use Rattle.psm_object.proofs.LineCounts.{listing_count}
use Rattle.psm_object.proofs.laws.rules_count_the_lines_of_a_listing.Goals as goal

pub returns : goal.returns
returns c = listing_count
