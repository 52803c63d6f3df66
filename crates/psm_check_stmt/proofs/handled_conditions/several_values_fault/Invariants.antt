use Rattle.std.proofs.Common.{◌∷◌, take}
use Rattle.psm_check_stmt.specs.Handling.{FindsIn}
use Rattle.psm_check_stmt.proofs.handled_conditions.several_values_fault.Given as goal

abbrev pub invariant-loop-value : goal.invariant-loop-value
invariant-loop-value l = FindsIn l.scopes (l.values.first ∷ take l.value-index l.value-items) l.fn.handled_conditions l.handled_conditions l.fault
