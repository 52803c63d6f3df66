use Rattle.std.proofs.Common.{◌≡◌, true, drop}
use Rattle.psm_scope.specs.Lookup.{variables_called}
use Rattle.psm_scope.proofs.scopes.Scopes.qualified.Given as goal

abbrev pub invariant-loop-depth : goal.invariant-loop-depth
invariant-loop-depth g l = variables_called l.sees l.qualifier (drop l.depth l.self) ≡ variables_called true l.qualifier l.self
