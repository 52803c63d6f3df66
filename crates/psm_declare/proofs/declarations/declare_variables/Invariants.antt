use Rattle.std.proofs.Common.{◌≡◌, ◌++◌, drop}
use Rattle.std.specs.Prelude.{IsTrue}
use Rattle.psm_scope.specs.KeptScopes.{can_declare_here}
use Rattle.psm_rules.specs.StatementFaults.{several}
use Rattle.psm_declare.specs.Numbering.{next_slot}
use Rattle.psm_declare.proofs.declarations.declare_variables.Given as goal
use Rattle.psm_declare.specs.Declarations.{slots_from, numbered_variables}

abbrev pub invariant-loop-name : goal.invariant-loop-name
invariant-loop-name l = IsTrue (can_declare_here l.scopes)
    × (l.slots.items ++ slots_from (next_slot l.numbering) (drop l.name-index l.name-items) ≡ slots_from (next_slot l.fn.numbering) (several l.names))
    × ((numbered_variables l.kind (l.scopes, l.numbering) (drop l.name-index l.name-items)).0 ≡ (numbered_variables l.kind (l.fn.scopes, l.fn.numbering) (several l.names)).0)
    × ((numbered_variables l.kind (l.scopes, l.numbering) (drop l.name-index l.name-items)).1 ≡ (numbered_variables l.kind (l.fn.scopes, l.fn.numbering) (several l.names)).1)
