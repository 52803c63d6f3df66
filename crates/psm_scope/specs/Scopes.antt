-- What is declared around a statement (ISO/IEC 9075-4:1996, compound statements): a scope for the routine, for each compound
-- statement, loop and FOR statement, and for each action of a handler, the innermost first.
use Rattle.std.specs.Prelude.{ℕ, Bool, Option, nat_eq, List, []}
use Rattle.std.specs.Cmp.Lexicographic.{pointwise}

-- a name, as the list of its characters
abbrev pub Spelling : Type 0
Spelling = List ℕ

abbrev pub is_spelled : Spelling → Spelling → Bool
is_spelled a b = pointwise nat_eq a b

-- what stands in a scope; V is what is known of a variable, C of a condition and K of a cursor
pub record Declared (V C K : Type 0) : Type 0 where
  pub variables : List (Spelling × V)
  pub conditions : List (Spelling × C)
  pub cursors : List (Spelling × K)

pub data Scope (V C K : Type 0) : Type 0 where
  -- a routine with its name; its parameters are variables
  Routine : Spelling → Declared V C K → Scope V C K
  -- a compound statement with its label
  Compound : Option Spelling → Declared V C K → Scope V C K
  -- LOOP, WHILE or REPEAT with its label
  Loop : Option Spelling → Scope V C K
  -- FOR with its label and its name
  For : Option Spelling → Spelling → Declared V C K → Scope V C K
  -- the action of a handler, in which no label from outside is seen
  Action : Scope V C K

-- nothing
abbrev pub undeclared : {V C K : Type 0} → Declared V C K
undeclared = record { variables = []; conditions = []; cursors = [] }

abbrev pub declared_in : {V C K : Type 0} → Scope V C K → Declared V C K
declared_in (Routine name d) = d
declared_in (Compound label d) = d
declared_in (Loop label) = undeclared
declared_in (For label name d) = d
declared_in Action = undeclared
