use Rattle.std.proofs.Common.{length}
use Rattle.std.specs.Option.{option_copied}
use Rattle.psm_table.specs.Key.{values_at}
use Rattle.psm_table.specs.PairPosition.{ahead}
use Rattle.psm_table.proofs.PrefixWalks.{Walked}
use Rattle.psm_table.proofs.Rivals.{rival_by}
use Rattle.psm_table.proofs.index.has_rival_in.Given as goal

abbrev pub invariant-walk : goal.invariant-walk
invariant-walk l = Walked (values_at l.columns l.row) (rival_by l.def l.row l.columns l.rows.pairs) l.index.pairs (option_copied l.next)

abbrev pub decreases-walk : goal.decreases-walk
decreases-walk l = length (ahead l.index.pairs (option_copied l.next))
