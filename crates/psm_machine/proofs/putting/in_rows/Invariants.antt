use Rattle.std.proofs.Common.{◌≡◌, ◌-◌, ◌++◌, reverse}
use Rattle.psm_code.specs.Plans.{in_rows}
use Rattle.psm_machine.proofs.putting.in_rows.Given as goal

abbrev pub invariant-loop-index : goal.invariant-loop-index
invariant-loop-index l = l.made.items ++ in_rows (l.fn.rows - l.index) l.fn.width (reverse l.rest.items) ≡ in_rows l.fn.rows l.fn.width l.fn.values
