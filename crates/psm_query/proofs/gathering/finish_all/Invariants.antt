use Rattle.psm_query.specs.Tallies.{finish}
use Rattle.psm_tablecode.proofs.Collecting.{Collects}
use Rattle.psm_query.proofs.gathering.finish_all.Given as goal

abbrev pub invariant-loop-tally : goal.invariant-loop-tally
invariant-loop-tally l = Collects finish l.tallies l.tally-index l.values.items
