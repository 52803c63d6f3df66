use Rattle.std.proofs.Common.{◌≡◌, drop}
use Rattle.psm_scope.specs.Lookup.{condition}
use Rattle.psm_scope.proofs.scopes.Scopes.condition.Given as goal

abbrev pub invariant-loop-depth : goal.invariant-loop-depth
invariant-loop-depth g l = condition l.name (drop l.depth l.self) ≡ condition l.name l.self
