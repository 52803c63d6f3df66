use Rattle.std.proofs.Common.{◌≡◌, drop}
use Rattle.psm_scope.specs.Lookup.{cursor}
use Rattle.psm_scope.proofs.scopes.Scopes.cursor.Given as goal

abbrev pub invariant-loop-depth : goal.invariant-loop-depth
invariant-loop-depth g l = cursor l.name (drop l.depth l.self) ≡ cursor l.name l.self
