use Rattle.std.proofs.Common.{take}
use Rattle.psm_row_changes.specs.KeyTests.{IsSought, Matched}
use Rattle.psm_row_changes.proofs.seeking.seek.Given as goal

abbrev pub invariant-loop-key : goal.invariant-loop-key
invariant-loop-key g l = Matched (IsSought (g.S.Store.tables l.store) l.t l.keys l.rows) (take l.key-index l.constraints) l.sought.items
