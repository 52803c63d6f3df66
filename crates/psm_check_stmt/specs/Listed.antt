-- Names in order, of which none may stand twice.
use Rattle.std.specs.Prelude.{◌≡◌, List, ◌++◌, is_some}
use Rattle.std.specs.List.{list_any}
use Rattle.psm_scope.specs.Scopes.{Spelling, is_spelled}
use Rattle.psm_scope.specs.Lookup.{named}
use Rattle.psm_tree.specs.declared.name.Identifier.{Identifier}
use Rattle.psm_rules.specs.declared.rule.Rule.{Rule}

-- the rule that a name breaks where it stands twice, and the names so far
pub record Listed : Type 0 where
  pub rule : Rule
  pub names : List Identifier

abbrev pub with_names : Listed → List Identifier → Listed
with_names l names = record l { names = l.names ++ names }

-- exactly the names so far are seen
abbrev pub AreSeen : {A : Type 0} → List (Spelling × A) → List Identifier → Type 0
AreSeen seen names = (n : Spelling) → is_some (named n seen) ≡ list_any (λ i. is_spelled n i.name) names
