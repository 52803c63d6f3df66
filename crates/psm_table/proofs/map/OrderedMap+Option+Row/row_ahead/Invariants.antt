use Rattle.std.proofs.Common.{◌≡◌, length}
use Rattle.std.specs.Prelude.{slice_get}
use Rattle.std.specs.Option.{option_copied}
use Rattle.psm_table.specs.Held.{live_rows}
use Rattle.psm_table.specs.PairPosition.{ahead}
use Rattle.psm_table.proofs.map.OrderedMap+Option+Row.row_ahead.Given as goal

abbrev pub invariant-loop-next : goal.invariant-loop-next
invariant-loop-next l = slice_get (live_rows (ahead l.self.pairs (option_copied l.next))) 0 ≡ slice_get (live_rows (ahead l.self.pairs (option_copied l.pair))) 0

abbrev pub decreases-loop-next : goal.decreases-loop-next
decreases-loop-next l = length (ahead l.self.pairs (option_copied l.next))
