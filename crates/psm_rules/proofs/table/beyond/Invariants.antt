use Rattle.std.proofs.Common.{◌≡◌, drop}
use Rattle.std.specs.Prelude.{slice_get}
use Rattle.psm_rules.specs.FileFaults.{column_names}
use Rattle.psm_rules.proofs.table.beyond.Given as goal

abbrev pub invariant-loop-element : goal.invariant-loop-element
invariant-loop-element l = slice_get (column_names (drop l.element-index l.elements)) l.left ≡ slice_get (column_names l.elements) l.columns
