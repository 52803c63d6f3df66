use Rattle.std.proofs.Common.{◌≡◌, ℕ, ◌<◌, List, get_or, false}
use Rattle.psm_table.specs.Index.{AreHarmless}
use Rattle.psm_table.specs.Key.{values_at}
use Rattle.psm_table.specs.Mapped.{Mapped}
use Rattle.psm_table.specs.Unique.{has_null}
use Rattle.psm_table.proofs.index.has_rival.Given as goal

abbrev pub invariant-loop-i : goal.invariant-loop-i
invariant-loop-i l = (k : ℕ) (c : List ℕ) (m : Mapped (Unit {0})) → k < l.i → has_null (values_at (get_or l.def.unique k c) l.row) ≡ false
    → AreHarmless l.def (get_or l.def.unique k c) l.rows.pairs l.row (get_or l.indexes k m).pairs
