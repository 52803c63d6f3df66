-- Constant folding: operations on constants and variables alone are replaced by their values before a walk is chosen, so that
-- a test of which nothing else could raise a condition asks for a walk (ISO/IEC 9075:1992, clause 6).
use Rattle.std.specs.Prelude.{◌≡◌, Bool, true, ℕ, zero, suc, nat_le, List, [], ◌∷◌, drop, map, reverse, Option, Some, None, option_and_then, option_map, if◌then◌else◌}
use Rattle.std.specs.List.{list_all}
use Rattle.psm_value.specs.declared.datum.Datum.{Datum}
use Rattle.psm_value.specs.declared.datum.Datum.TheVariants.{Null, Num, Text}
use Rattle.psm_exprcode.specs.declared.op.Letter.{Letter}
use Rattle.psm_exprcode.specs.declared.op.Letter.TheVariants.{N, T}
use Rattle.psm_exprcode.specs.declared.op.Line.{Line}
use Rattle.psm_exprcode.specs.declared.op.Op.{Op}
use Rattle.psm_exprcode.specs.declared.op.Op.TheVariants as op
use Rattle.psm_exprcode.specs.declared.operand.Next.TheVariants.{FallThrough, Jump}
use Rattle.psm_exprcode.specs.declared.operand.Operand.TheVariants.{Value, Truth}
use Rattle.psm_exprcode.specs.Applied.{applied, Applied, Went, Raised, Stuck}
use Rattle.psm_exprcode.specs.WellFormed.{is_type}
use Rattle.psm_tablecode.specs.Tests.{are_quiet, fixed, is_quiet, with_first}

-- ---- one operation

-- how many values an operation folds into one; one that is never folded takes none
abbrev pub folds : Op → ℕ
folds op.Negate = 1
folds op.Add = 2
folds op.Subtract = 2
folds op.Multiply = 2
folds op.Divide = 2
folds (op.Rescale s) = if nat_le s 18 then 1 else 0
folds op.Concatenate = 2
folds op.CharacterLength = 1
folds op.Position = 2
folds op.SubstringFrom = 2
folds op.SubstringFromFor = 3
folds (op.Trim side) = 1
folds op.Upper = 1
folds op.Lower = 1
folds op.NullIf = 2
folds (op.Cast to) = if is_type to then 1 else 0
folds o = 0

-- the value with which an operation goes ahead, where it leaves nothing else
abbrev pub value_alone : Applied → Option Datum
value_alone (Went FallThrough []) = None
value_alone (Went FallThrough (Value d ∷ [])) = Some d
value_alone (Went FallThrough (Value d ∷ o ∷ os)) = None
value_alone (Went FallThrough (Truth t ∷ os)) = None
value_alone (Went (Jump p) os) = None
value_alone (Raised state) = None
value_alone Stuck = None

-- the value that an operation puts in place of its operands, the last one first, unless it raises a condition
abbrev pub value_put : Op → List Datum → Option Datum
value_put o ds = value_alone (applied o (map Value ds) [] [])

-- ---- operations one after another; those done stand with the last one first

-- the values that the last n of them put on whichever row, the last one first
abbrev pub last_values : List Datum → ℕ → List Op → Option (List Datum)
last_values vars zero done = Some []
last_values vars (suc n) [] = None
last_values vars (suc n) (o ∷ done) = with_first (fixed vars o) (last_values vars n done)

-- the value of an operation that folds n values, on those that were put last
abbrev pub value_on : List Datum → ℕ → List Op → Op → Option Datum
value_on vars zero done o = None
value_on vars (suc n) done o = option_and_then (value_put o) (last_values vars (suc n) done)

abbrev pub letter_for : Datum → Letter
letter_for Null = N
letter_for (Num n) = N
letter_for (Text t) = T

abbrev pub constant : Datum → Op
constant d = op.Constant (letter_for d) d

-- a constant in place of the last n, where there is a value for it, or else one more operation
abbrev pub done_with : ℕ → List Op → Op → Option Datum → List Op
done_with n done o (Some d) = constant d ∷ drop n done
done_with n done o None = o ∷ done

-- one more operation, folded with those whose values it takes
abbrev pub fold_op : List Datum → List Op → Op → List Op
fold_op vars done o = done_with (folds o) done o (value_on vars (folds o) done o)

abbrev pub fold_ops : List Datum → List Op → List Op → List Op
fold_ops vars done [] = reverse done
fold_ops vars done (o ∷ ops) = fold_ops vars (fold_op vars done o) ops

-- ---- tests

-- a line that states no operands: a walk is chosen by operations alone
abbrev pub bare : Op → Line
bare o = record { stack = []; op = o }

abbrev pub ops_of : List Line → List Op
ops_of lines = map (λ (l : Line). l.op) lines

abbrev pub folded : List Datum → List Line → List Line
folded vars lines = map bare (fold_ops vars [] (ops_of lines))

-- the lines if they raise nothing, or else the folded lines if these raise nothing, or else the lines
abbrev pub quiet_form : List Datum → List Line → List Line
quiet_form vars lines = if are_quiet lines then lines else if are_quiet (folded vars lines) then folded vars lines else lines

-- the test by which the walk of a statement is chosen
abbrev pub folded_test : List Datum → Option (List Line) → Option (List Line)
folded_test vars test = option_map (quiet_form vars) test

-- ---- where folding stands

abbrev pub all_quiet : List Op → Bool
all_quiet ops = list_all is_quiet ops

-- a comparison or a test that raises nothing, but IN
abbrev pub quiet_test : Op → Option Op
quiet_test op.Equal = Some op.Equal
quiet_test op.NotEqual = Some op.NotEqual
quiet_test op.Less = Some op.Less
quiet_test op.LessOrEqual = Some op.LessOrEqual
quiet_test op.Greater = Some op.Greater
quiet_test op.GreaterOrEqual = Some op.GreaterOrEqual
quiet_test op.IsNull = Some op.IsNull
quiet_test op.Between = Some op.Between
quiet_test op.Like = Some op.Like
quiet_test op.And = Some op.And
quiet_test op.Or = Some op.Or
quiet_test op.Not = Some op.Not
quiet_test o = None

-- the lines before an index are folded into those that are done, which raise nothing
pub record IsDone (vars : List Datum) (lines : List Line) (at : ℕ) (done : List Op) : Type 0 where
  pub so_far : fold_ops vars done (ops_of (drop at lines)) ≡ fold_ops vars [] (ops_of lines)
  pub quiet : all_quiet done ≡ true
