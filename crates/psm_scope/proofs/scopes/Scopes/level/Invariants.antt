use Rattle.std.proofs.Common.{◌≡◌, drop}
use Rattle.psm_scope.specs.KeptScopes.{level}
use Rattle.psm_scope.proofs.scopes.Scopes.level.Given as goal

abbrev pub invariant-loop-depth : goal.invariant-loop-depth
invariant-loop-depth g l = level l.label (drop l.depth l.self) ≡ level l.label l.self
