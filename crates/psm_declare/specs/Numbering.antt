-- What the declarations of a routine are numbered by: each variable has a slot of its own, and each cursor and each condition
-- without an SQLSTATE a number of its own. Nothing is used again.
use Rattle.std.specs.Prelude.{ℕ, suc, List, [], ◌∷◌, ◌++◌, length}
use Rattle.psm_value.specs.declared.sqltype.SqlType.{SqlType}
use Rattle.psm_scope.specs.Scopes.{Spelling}

-- what is numbered so far
pub record Numbering : Type 0 where
  -- the types of the slots
  pub slots : List SqlType
  -- how many cursors there are
  pub cursors : ℕ
  -- the names of the conditions without an SQLSTATE
  pub conditions : List Spelling

-- what is made where so much is numbered, and what is numbered after it
abbrev pub Step : Type 0 → Type 0
Step A = Numbering → A × Numbering

-- a slot more, which is the last
abbrev pub with_slot : SqlType → Numbering → Numbering
with_slot t n = record n { slots = n.slots ++ t ∷ [] }

abbrev pub next_slot : Numbering → ℕ
next_slot n = length n.slots

abbrev pub with_cursor : Numbering → Numbering
with_cursor n = record n { cursors = suc n.cursors }

abbrev pub with_condition : Spelling → Numbering → Numbering
with_condition name n = record n { conditions = n.conditions ++ name ∷ [] }

abbrev pub next_condition : Numbering → ℕ
next_condition n = length n.conditions

-- one thing after another
abbrev pub in_turn : {A : Type 0} → List (Step A) → Step (List A)
in_turn [] n = ([], n)
in_turn (step ∷ steps) n = let one = step n in let others = in_turn steps one.1 in (one.0 ∷ others.0, others.1)

-- what is made of a thing that is made
abbrev pub then_as : {A B : Type 0} → (A → B) → Step A → Step B
then_as f step n = let resolved = step n in (f resolved.0, resolved.1)
