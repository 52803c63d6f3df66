use Rattle.std.specs.List.{zip}
use Rattle.psm_tablecode.proofs.Collecting.{Collects}
use Rattle.psm_dml.proofs.Storings.{storing}
use Rattle.psm_dml.proofs.storing.stored_row.Given as goal

abbrev pub invariant-loop-at : goal.invariant-loop-at
invariant-loop-at l = Collects storing (zip l.columns l.values) l.at l.stored.items
