use Rattle.std.proofs.Common.{◌≡◌, ◌++◌, drop}
use Rattle.std.specs.Prelude.{IsTrue}
use Rattle.psm_scope.specs.KeptScopes.{can_declare_here}
use Rattle.psm_declare.proofs.declarations.declarations_of.Given as goal
use Rattle.psm_declare.specs.Declarations.{declarations_of, numbered_by}

abbrev pub invariant-loop-declaration : goal.invariant-loop-declaration
invariant-loop-declaration l = IsTrue (can_declare_here l.scopes)
    × (l.resolved.items ++ declarations_of l.resolver.symbols.now (l.scopes, l.numbering) (drop l.declaration-index l.declaration-items) ≡ declarations_of l.resolver.symbols.now (l.fn.scopes, l.fn.numbering) l.declarations)
    × ((numbered_by (l.scopes, l.numbering) (drop l.declaration-index l.declaration-items)).0 ≡ (numbered_by (l.fn.scopes, l.fn.numbering) l.declarations).0)
    × ((numbered_by (l.scopes, l.numbering) (drop l.declaration-index l.declaration-items)).1 ≡ (numbered_by (l.fn.scopes, l.fn.numbering) l.declarations).1)
