use Rattle.std.proofs.Common.{◌≡◌, drop}
use Rattle.std.specs.Prelude.{IsTrue}
use Rattle.psm_scope.specs.KeptScopes.{can_declare_here}
use Rattle.psm_rules.specs.Faults.{first_from, first_of}
use Rattle.psm_rules.specs.BlockFaults.{cursors_fault, with_cursors}
use Rattle.psm_check_stmt.specs.InRoutine.{context}
use Rattle.psm_check_stmt.proofs.declarations.cursors_fault.Given as goal

abbrev pub invariant-loop-declared : goal.invariant-loop-declared
invariant-loop-declared l = IsTrue (can_declare_here l.scopes)
    × (first_from l.fault (cursors_fault (context l.c l.scopes).checker_scope (drop l.declared-index l.declared-items)) ≡ first_of (cursors_fault (context l.c l.fn.scopes).checker_scope l.cursors))
    × (with_cursors (context l.c l.scopes).checker_scope (drop l.declared-index l.declared-items) ≡ with_cursors (context l.c l.fn.scopes).checker_scope l.cursors)
