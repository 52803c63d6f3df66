-- What an operation needs, and what the call that carries it out says.
use Rattle.std.specs.Prelude.{◌≡◌, ℕ, zero, suc, ◌<◌, ◌≤◌, Bool, true, false, List, [], ◌∷◌, length, drop, reverse, IsTrue, Result, Ok, Err, if◌then◌else◌}
use Rattle.std.specs.List.{list_all}
use Rattle.std.specs.declared.alloc.Global.{Global}
use Rattle.std.specs.declared.vec.Vec.{Vec}
use Rattle.psm_value.specs.declared.datum.Datum.{Datum}
use Rattle.psm_value.specs.declared.fault.ValueFault.{ValueFault}
use Rattle.psm_value.specs.declared.fault.ValueFault.TheVariants.{Condition, Memory}
use Rattle.psm_value.specs.SqlType.{IsType}
use Rattle.psm_exprcode.specs.declared.op.Letter.TheVariants.{N}
use Rattle.psm_exprcode.specs.declared.op.Op.{Op}
use Rattle.psm_exprcode.specs.declared.op.Op.TheVariants as op
use Rattle.psm_exprcode.specs.declared.operand.Operand.{Operand}
use Rattle.psm_exprcode.specs.declared.operand.Operand.TheVariants.{Value, Truth}
use Rattle.psm_exprcode.specs.declared.operand.Next.{Next}
use Rattle.psm_exprcode.specs.Applied.{Applied, Went, Raised}
use Rattle.psm_exprcode.specs.Kinds.{is_value}
use Rattle.psm_exprcode.specs.Operations.{effect}

-- whether the first n operands are values
abbrev pub are_values : ℕ → List Operand → Bool
are_values zero os = true
are_values (suc n) [] = false
are_values (suc n) (Value a ∷ os) = are_values n os
are_values (suc n) (Truth t ∷ os) = false

-- whether the first n operands are truth values
abbrev pub are_truths : ℕ → List Operand → Bool
are_truths zero os = true
are_truths (suc n) [] = false
are_truths (suc n) (Value a ∷ os) = false
are_truths (suc n) (Truth t ∷ os) = are_truths n os

-- whether there is an operand with a value below it
abbrev pub is_over_value : List Operand → Bool
is_over_value [] = false
is_over_value (x ∷ os) = are_values 1 os

-- whether the operands that the table says are there: values where it says N, T or k, and truth values where it says B
abbrev pub finds : Op → List Operand → Bool
finds op.DropBelow os = is_over_value os
finds (op.In n) os = are_values (suc n) os
finds o os = let takes = (effect o N N).takes in if list_all is_value takes then are_values (length takes) os else are_truths (length takes) os

-- the column or the variable that the operation names is there
abbrev pub IsNamed : Op → List Datum → List Datum → Type 0
IsNamed (op.Variable i) row vars = i < length vars
IsNamed (op.Column i) row vars = i < length row
IsNamed o row vars = Unit {0}

-- the scale or the type that stands in it is within bounds
abbrev pub IsWithin : Op → Type 0
IsWithin (op.Rescale s) = s ≤ 18
IsWithin (op.Cast to) = IsType to
IsWithin o = Unit {0}

-- the operation finds what it needs
abbrev pub Fits : Op → List Operand → List Datum → List Datum → Type 0
Fits o os row vars = IsTrue (finds o os) × IsNamed o row vars × IsWithin o

-- a refusal is of the condition that is expected; memory may always run out
abbrev pub Refuses : Applied → ValueFault → Type 0
Refuses expected (Condition state) = expected ≡ Raised state
Refuses expected Memory = Unit {0}

-- The call goes on as expected and leaves the operands that are expected, or it refuses. Then it leaves the old operands
-- below the n that are taken.
abbrev pub Applies : ℕ → List Operand → Applied → Result Next ValueFault → List Operand → Type 0
Applies n old expected (Ok next) new = expected ≡ Went next new
Applies n old expected (Err fault) new = Refuses expected fault × (new ≡ drop n old)

-- the same of a call that is given the operands in a vector, with the last one at its end
abbrev pub Carries : ℕ → (List Operand → Applied) → Vec Operand Global → Result Next ValueFault → Vec Operand Global → Type 0
Carries n expected old result new = Applies n (reverse old.items) (expected (reverse old.items)) result (reverse new.items)
