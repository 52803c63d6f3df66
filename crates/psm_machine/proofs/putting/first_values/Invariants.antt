use Rattle.std.proofs.Common.{◌≡◌, ◌-◌, ◌++◌, drop, reverse, take}
use Rattle.psm_machine.proofs.putting.first_values.Given as goal

abbrev pub invariant-loop-index : goal.invariant-loop-index
invariant-loop-index l = (l.row.items ++ take (l.fn.width - l.index) (reverse l.rest.items) ≡ take l.fn.width (reverse l.fn.rest.items))
    × (drop (l.fn.width - l.index) (reverse l.rest.items) ≡ drop l.fn.width (reverse l.fn.rest.items))
