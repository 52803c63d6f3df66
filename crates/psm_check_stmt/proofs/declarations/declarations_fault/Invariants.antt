use Rattle.std.proofs.Common.{◌≡◌, drop}
use Rattle.std.specs.Prelude.{IsTrue}
use Rattle.psm_scope.specs.KeptScopes.{can_declare_here}
use Rattle.psm_rules.specs.Faults.{first_from, first_of}
use Rattle.psm_rules.specs.BlockFaults.{declarations_fault, declared_by}
use Rattle.psm_check_stmt.specs.InRoutine.{context}
use Rattle.psm_check_stmt.proofs.declarations.declarations_fault.Given as goal

abbrev pub invariant-loop-declaration : goal.invariant-loop-declaration
invariant-loop-declaration l = IsTrue (can_declare_here l.scopes)
    × (first_from l.fault (declarations_fault (context l.c l.scopes).checker_scope (drop l.declaration-index l.declaration-items)) ≡ first_of (declarations_fault (context l.c l.fn.scopes).checker_scope l.declarations))
    × (declared_by l.scopes (drop l.declaration-index l.declaration-items) ≡ declared_by l.fn.scopes l.declarations)
