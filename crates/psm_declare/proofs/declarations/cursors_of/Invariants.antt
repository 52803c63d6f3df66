use Rattle.std.proofs.Common.{◌≡◌, ◌++◌, drop}
use Rattle.std.specs.Prelude.{IsTrue}
use Rattle.psm_scope.specs.KeptScopes.{can_declare_here}
use Rattle.psm_declare.proofs.declarations.cursors_of.Given as goal
use Rattle.psm_declare.specs.Declarations.{cursors_of, numbered_cursors}

abbrev pub invariant-loop-cursor : goal.invariant-loop-cursor
invariant-loop-cursor l = IsTrue (can_declare_here l.scopes)
    × (l.resolved.items ++ cursors_of l.resolver.symbols.now (l.scopes, l.numbering) (drop l.cursor-index l.cursor-items) ≡ cursors_of l.resolver.symbols.now (l.fn.scopes, l.fn.numbering) l.cursors)
    × ((numbered_cursors (l.scopes, l.numbering) (drop l.cursor-index l.cursor-items)).0 ≡ (numbered_cursors (l.fn.scopes, l.fn.numbering) l.cursors).0)
    × ((numbered_cursors (l.scopes, l.numbering) (drop l.cursor-index l.cursor-items)).1 ≡ (numbered_cursors (l.fn.scopes, l.fn.numbering) l.cursors).1)
