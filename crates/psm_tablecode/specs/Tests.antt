-- What a test makes true of a column: which predicates in it raise no condition, and which of them have to be true where the test is
-- (ISO/IEC 9075:1992, 8.2 and 8.12).
use Rattle.std.specs.Prelude.{Bool, true, false, ℕ, ◌+◌, ◌-◌, List, [], ◌∷◌, drop, nat_eq, slice_get, Option, Some, None, if◌then◌else◌}
use Rattle.std.specs.List.{list_all}
use Rattle.std.specs.Option.{option_or}
use Rattle.psm_value.specs.declared.datum.Datum.{Datum}
use Rattle.psm_exprcode.specs.declared.op.Line.{Line}
use Rattle.psm_exprcode.specs.declared.op.Op.{Op}
use Rattle.psm_exprcode.specs.declared.op.Op.TheVariants as op

-- ---- tests that raise nothing

-- whether an operation puts a column, a constant or a variable, or has a truth value without a condition
abbrev pub is_quiet : Op → Bool
is_quiet (op.Constant k d) = true
is_quiet (op.Variable i) = true
is_quiet (op.Column i) = true
is_quiet op.Equal = true
is_quiet op.NotEqual = true
is_quiet op.Less = true
is_quiet op.LessOrEqual = true
is_quiet op.Greater = true
is_quiet op.GreaterOrEqual = true
is_quiet op.IsNull = true
is_quiet op.Between = true
is_quiet (op.In n) = true
is_quiet op.Like = true
is_quiet op.And = true
is_quiet op.Or = true
is_quiet op.Not = true
is_quiet o = false

-- nothing else stands in the code, so that it raises nothing and goes on from each line to the next
abbrev pub are_quiet : List Line → Bool
are_quiet lines = list_all (λ l. is_quiet l.op) lines

-- ---- what has to be true

abbrev pub is_and : Op → Bool
is_and op.And = true
is_and o = false

-- how many operands such an operation takes, where it puts one
abbrev pub takes : Op → ℕ
takes op.Equal = 2
takes op.NotEqual = 2
takes op.Less = 2
takes op.LessOrEqual = 2
takes op.Greater = 2
takes op.GreaterOrEqual = 2
takes op.IsNull = 1
takes op.Between = 3
takes (op.In n) = n + 1
takes op.Like = 2
takes op.And = 2
takes op.Or = 2
takes op.Not = 1
takes o = 0

-- Where the operands below the last n after an operation have to be true: below how many they have to be before it. What AND
-- takes has to be true where what it puts has to be, and of others nothing is known.
abbrev pub free_before : Op → ℕ → ℕ
free_before o n = if nat_eq n 0 then (if is_and o then 0 else takes o) else (n - 1) + takes o

-- below how many operands they have to be true before some lines, so that the lines end with true
abbrev pub free : List Line → ℕ
free [] = 0
free (l ∷ lines) = free_before l.op (free lines)

-- ---- the value for which a test asks in a column

abbrev pub is_column : ℕ → Op → Bool
is_column c (op.Column i) = nat_eq i c
is_column c o = false

abbrev pub is_equality : Op → Bool
is_equality op.Equal = true
is_equality o = false

-- the value that an operation puts on whichever row
abbrev pub fixed : List Datum → Op → Option Datum
fixed vars (op.Constant k d) = Some d
fixed vars (op.Variable i) = slice_get vars i
fixed vars o = None

-- a value before others, if all are there
abbrev pub with_first : Option Datum → Option (List Datum) → Option (List Datum)
with_first None ds = None
with_first (Some d) None = None
with_first (Some d) (Some ds) = Some (d ∷ ds)

-- the value to which two operands would be equal, if one is the column
abbrev pub opposite : ℕ → List Datum → Op → Op → Option Datum
opposite c vars a b = if is_column c a then fixed vars b else if is_column c b then fixed vars a else None

-- the value to which two operands and an equality make the column equal
abbrev pub made_equal : ℕ → List Datum → Op → Op → Op → Option Datum
made_equal c vars a b e = if is_equality e then opposite c vars a b else None

-- ---- what a predicate makes

-- what the first three of some lines make
abbrev pub first_three : {X : Type 0} → (Op → Op → Op → Option X) → List Line → Option X
first_three make [] = None
first_three make (a ∷ []) = None
first_three make (a ∷ b ∷ []) = None
first_three make (a ∷ b ∷ e ∷ lines) = make a.op b.op e.op

-- what the first four make
abbrev pub first_four : {X : Type 0} → (Op → Op → Op → Op → Option X) → List Line → Option X
first_four make [] = None
first_four make (x ∷ []) = None
first_four make (x ∷ a ∷ []) = None
first_four make (x ∷ a ∷ b ∷ []) = None
first_four make (x ∷ a ∷ b ∷ e ∷ lines) = make x.op a.op b.op e.op

-- the first that is made by n lines that have to be true where the end is true
abbrev pub made : {X : Type 0} → ℕ → (List Line → Option X) → List Line → Option X
made width make [] = None
made width make (l ∷ lines) = option_or (if nat_eq (free (drop width (l ∷ lines))) 0 then make (l ∷ lines) else None) (made width make lines)

-- the first value to which the lines make the column equal where they end with true
abbrev pub sought : ℕ → List Datum → List Line → Option Datum
sought c vars lines = made 3 (first_three (made_equal c vars)) lines
