use Rattle.std.proofs.Common.{◌≡◌, drop}
use Rattle.psm_tablecode.specs.NewRows.{value_for}
use Rattle.psm_machine.proofs.putting.value_for.Given as goal

abbrev pub invariant-loop-at : goal.invariant-loop-at
invariant-loop-at l = value_for l.index (drop l.at l.columns) (drop l.at l.values) l.default ≡ value_for l.index l.columns l.values l.default
