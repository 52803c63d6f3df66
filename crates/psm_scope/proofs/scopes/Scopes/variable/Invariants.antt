use Rattle.std.proofs.Common.{◌≡◌, drop}
use Rattle.psm_scope.specs.Lookup.{variable}
use Rattle.psm_scope.proofs.scopes.Scopes.variable.Given as goal

abbrev pub invariant-loop-depth : goal.invariant-loop-depth
invariant-loop-depth g l = variable l.name (drop l.depth l.self) ≡ variable l.name l.self
