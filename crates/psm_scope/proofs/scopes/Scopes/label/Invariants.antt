use Rattle.std.proofs.Common.{◌≡◌, drop}
use Rattle.psm_scope.specs.Lookup.{labels, named}
use Rattle.psm_scope.proofs.scopes.Scopes.label.Given as goal

abbrev pub invariant-loop-depth : goal.invariant-loop-depth
invariant-loop-depth g l = named l.label (labels (drop l.depth l.self)) ≡ named l.label (labels l.self)
