-- What the names of a routine refer to: the numbers that stand in its resolved tree for what they mean and for what is declared.
use Rattle.std.specs.Prelude.{ℕ, List, [], ◌∷◌, ◌++◌, Option, Some, None}
use Rattle.psm_list.specs.Several.{Several}
use Rattle.psm_resolved.specs.declared.statement.ResolvedCondition.{ResolvedCondition}

pub data Referent : Type 0 where
  -- nothing
  Null : Referent
  -- a column, by its index in the table of the row or of the statement
  Column : ℕ → Referent
  -- a variable or a parameter, by its slot
  Variable : ℕ → Referent
  Cursor : ℕ → Referent
  -- a condition: an SQLSTATE, or one without, by its number
  Condition : ResolvedCondition → Referent
  -- a block, by its level
  Block : ℕ → Referent
  Table : ℕ → Referent
  Procedure : ℕ → Referent
  Function : ℕ → Referent
  -- what is declared there, or a block that begins there
  Declaration : Referent → Referent

-- ---- parts one after another

abbrev pub together : {A : Type 0} → List (List A) → List A
together [] = []
together (xs ∷ others) = xs ++ together others

abbrev pub in_several : {A : Type 0} → Several (List A) → List A
in_several s = s.first ++ together s.rest

abbrev pub perhaps : {A : Type 0} → Option (List A) → List A
perhaps None = []
perhaps (Some xs) = xs
