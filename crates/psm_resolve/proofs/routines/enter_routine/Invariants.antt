use Rattle.std.proofs.Common.{◌≡◌, drop}
use Rattle.std.specs.Prelude.{IsTrue}
use Rattle.psm_scope.specs.KeptScopes.{can_declare_here}
use Rattle.psm_resolve.specs.Files.{routine_numbered, numbered_parameters}
use Rattle.psm_resolve.proofs.routines.enter_routine.Given as goal

abbrev pub invariant-loop-parameter : goal.invariant-loop-parameter
invariant-loop-parameter l = IsTrue (can_declare_here l.scopes)
    × ((numbered_parameters (l.scopes, l.numbering) (drop l.parameter-index l.parameter-items)).0 ≡ (routine_numbered l.routine).0)
    × ((numbered_parameters (l.scopes, l.numbering) (drop l.parameter-index l.parameter-items)).1 ≡ (routine_numbered l.routine).1)
