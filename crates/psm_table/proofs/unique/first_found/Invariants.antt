use Rattle.std.proofs.Common.{length}
use Rattle.std.specs.Option.{option_copied}
use Rattle.psm_table.specs.PairPosition.{ahead}
use Rattle.psm_table.proofs.MatchingEntries.{Passed}
use Rattle.psm_table.proofs.unique.first_found.Given as goal

abbrev pub invariant-walk : goal.invariant-walk
invariant-walk l = Passed l.columns l.values l.rows.pairs l.entries.pairs (option_copied l.initial.next) (option_copied l.next)

abbrev pub decreases-walk : goal.decreases-walk
decreases-walk l = length (ahead l.entries.pairs (option_copied l.next))
