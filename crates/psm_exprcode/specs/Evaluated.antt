-- The value of an expression.
use Rattle.std.specs.Prelude.{◌≡◌, ℕ, suc, List, [], ◌∷◌, nat_eq, IsTrue, Option, Some, None, Result, Ok, Err, if◌then◌else◌}
use Rattle.psm_value.specs.declared.datum.Datum.{Datum}
use Rattle.psm_value.specs.declared.fault.ValueFault.{ValueFault}
use Rattle.psm_value.specs.declared.fault.ValueFault.TheVariants.{Condition, Memory}
use Rattle.psm_exprcode.specs.declared.op.Line.{Line}
use Rattle.psm_exprcode.specs.declared.op.Letter.{Letter}
use Rattle.psm_exprcode.specs.declared.operand.Operand.{Operand}
use Rattle.psm_exprcode.specs.declared.operand.Next.{Next}
use Rattle.psm_exprcode.specs.declared.operand.Next.TheVariants.{FallThrough, Jump}
use Rattle.psm_exprcode.specs.Applied.{Applied, Went, Raised, Stuck, applied}
use Rattle.psm_exprcode.specs.Kinds.{are_of}
use Rattle.psm_exprcode.specs.WellFormed.{does_fit}

-- what an expression evaluates to: an operand, the SQLSTATE of its first condition, or nothing where it is stuck
abbrev pub Outcome : Type 0
Outcome = Option (Result Operand (List ℕ))

-- the index after a line's
abbrev pub line_after : ℕ → Next → ℕ
line_after at FallThrough = suc at
line_after at (Jump p) = p

abbrev pub goes_on : Applied → (Next → List Operand → Outcome) → Outcome
goes_on (Went next os) go = go next os
goes_on (Raised state) go = Some (Err state)
goes_on Stuck go = None

-- the one operand at the end
abbrev pub ended : List Operand → Outcome
ended [] = None
ended (o ∷ []) = Some (Ok o)
ended (o ∷ p ∷ os) = None

-- the lines from an index on, where the one at pc is the next: those before it are passed over
abbrev pub ran : List Datum → List Datum → ℕ → ℕ → List Line → List Operand → Outcome
ran row vars at pc [] os = ended os
ran row vars at pc (l ∷ after) os =
    if nat_eq at pc then goes_on (applied l.op os row vars) (λ next. ran row vars (suc at) (line_after at next) after)
    else ran row vars (suc at) pc after os

-- the value of the expression over the columns and the variables
abbrev pub evaluated : List Line → List Datum → List Datum → Outcome
evaluated lines row vars = ran row vars 0 0 lines []

-- the columns and the variables are of kinds that the code fits, and it ends with that letter
pub record TypeChecks (lines : List Line) (row vars : List Datum) (end : Letter) : Type 0 where
  pub columns : List Letter
  pub variables : List Letter
  pub fits : IsTrue (does_fit columns variables lines end)
  pub row_kinds : IsTrue (are_of columns row)
  pub variable_kinds : IsTrue (are_of variables vars)

-- the answer is the one that is expected, unless memory runs out
abbrev pub Evaluates : Outcome → Result Operand ValueFault → Type 0
Evaluates expected (Ok operand) = expected ≡ Some (Ok operand)
Evaluates expected (Err (Condition state)) = expected ≡ Some (Err state)
Evaluates expected (Err Memory) = Unit {0}
