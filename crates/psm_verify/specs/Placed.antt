-- What is said of the lines of an expression by their indexes.
use Rattle.std.specs.Prelude.{ℕ, Bool, false, ◌&&◌, ◌||◌, not, nat_lt, List, [], ◌∷◌, length, reverse, slice_get, Option, Some, None}
use Rattle.psm_exprcode.specs.declared.op.Letter.{Letter}
use Rattle.psm_exprcode.specs.declared.op.Line.{Line}
use Rattle.psm_exprcode.specs.declared.op.Op.{Op}
use Rattle.psm_exprcode.specs.Kinds.{is_letter, is_value, some_letter}
use Rattle.psm_exprcode.specs.Operations.{effect}
use Rattle.psm_exprcode.specs.WellFormed.{is_of_kind, left_of}
use Rattle.psm_code.specs.declared.rule.CodeRule.{CodeRule}
use Rattle.psm_code.specs.declared.rule.CodeRule.TheVariants.{Stack, Turn}
use Rattle.psm_code.specs.Rules.{first_of, there, unless, where_there}
use Rattle.psm_code.specs.TableRules.{are_stated_after, is_bare_first, op_fault, operands_follow, reaches_end, target_of}
use Rattle.psm_verify.specs.declared.expressions.Due.{Due}
use Rattle.psm_verify.specs.declared.expressions.Due.TheVariants.{Value, Only}
use Rattle.psm_verify.specs.declared.placed.EndTest.{EndTest}
use Rattle.psm_verify.specs.declared.placed.EndTest.TheVariants.{Absent, Faultless, Brings}

-- the letters with which an expression may end
abbrev pub due_of : Due → Letter → Bool
due_of Value = is_value
due_of (Only k) = is_letter k

-- a letter is there, and due
abbrev pub is_due_end : (Letter → Bool) → Option Letter → Bool
is_due_end due None = false
is_due_end due (Some e) = due e

-- the operands of an operation follow for a value of that kind where it may be of either
abbrev pub follows_for : List Letter → List Letter → Option Letter → List Line → ℕ → Op → List Letter → Letter → Bool
follows_for columns variables end lines at o s k = is_of_kind columns variables o k && some_letter (λ x. are_stated_after end lines at (effect o k x) (left_of (effect o k x).takes s))

-- the rule on operands and on jumps that an operation breaks by itself
abbrev pub stack_fault : List Letter → List Letter → List Line → ℕ → Op → List Letter → Option CodeRule
stack_fault columns variables lines at o s = first_of (
    unless (is_bare_first at s && operands_follow columns variables None lines at o s) Stack
    ∷ unless (where_there (target_of o) (nat_lt at)) Turn ∷ [])

-- what is asked of an operation that goes on at the end
abbrev pub test_of : List Letter → List Letter → List Line → EndTest → ℕ → Op → List Letter → Bool
test_of columns variables lines Absent = λ at o s. false
test_of columns variables lines Faultless = λ at o s. not (there (op_fault columns variables lines at o s))
test_of columns variables lines (Brings k) = operands_follow columns variables (Some k) lines

abbrev pub end_over : List Letter → List Letter → List Line → EndTest → ℕ → Op → List Letter → Bool
end_over columns variables lines test at o s = not (reaches_end (length lines) at o) || test_of columns variables lines test at o s

-- ---- what is said of the line at an index, if it is there

abbrev pub end_at : List Letter → List Letter → List Line → EndTest → ℕ → Bool
end_at columns variables lines test at = where_there (slice_get lines at) (λ l. end_over columns variables lines test at l.op (reverse l.stack))

abbrev pub fault_of_line : List Letter → List Letter → List Line → ℕ → Option Line → Option CodeRule
fault_of_line columns variables lines at None = None
fault_of_line columns variables lines at (Some l) = op_fault columns variables lines at l.op (reverse l.stack)

abbrev pub fault_at : List Letter → List Letter → List Line → ℕ → Option CodeRule
fault_at columns variables lines at = fault_of_line columns variables lines at (slice_get lines at)
