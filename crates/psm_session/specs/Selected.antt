-- The rows that a query selects, written one by one.
use Rattle.std.specs.Prelude.{◌≡◌, ◌++◌, ℕ, false, List, [], codes, nat_eq, Option, Some, None, Result, Ok, Err, if◌then◌else◌}
use Rattle.psm_sqlstate.specs.declared.state.SqlState.{SqlState}
use Rattle.psm_value.specs.Answer.{Gives}
use Rattle.psm_value.specs.declared.datum.Datum.{Datum}
use Rattle.psm_value.specs.declared.fault.ValueFault.{ValueFault}
use Rattle.psm_value.specs.declared.fault.ValueFault.TheVariants.{Condition, Memory}
use Rattle.psm_exprcode.specs.declared.query.Query.{Query}
use Rattle.psm_table.specs.Evaluator.{mapped, test_of}
use Rattle.psm_table.specs.Queries.{in_walk, walked, Answer}
use Rattle.psm_tablecode.specs.Codes.{over}
use Rattle.psm_tablecode.specs.Rows.{values_for}
use Rattle.psm_meaning.specs.Acts.{of_state}
use Rattle.psm_meaning.specs.Lines.{condition_lines, ok_line, row_line}

-- the answer of a query without set functions: the rows that are taken of those of its table
abbrev pub found_rows : List Datum → Query → List (List Datum) → Result Answer SqlState
found_rows vars q rows = mapped (λ found. record { rows = found; skipped = false }) (walked (test_of (over vars) q.test) (values_for vars q.items) (in_walk q.downward rows))

-- the last line, where a piece has n bytes before its rows and m with them
abbrev pub end_of_selected : ℕ → ℕ → List ℕ
end_of_selected n m = if nat_eq m n then condition_lines (of_state (codes "02000")) else ok_line

-- the line of a row, if it is taken
abbrev pub taken_line : Option (List Datum) → List ℕ
taken_line None = []
taken_line (Some row) = row_line row

-- what is written is what is expected, or the condition is, unless memory runs out
abbrev pub Writes : Result (List ℕ) SqlState → List ℕ → Result (Unit {0}) ValueFault → Type 0
Writes expected new (Ok u) = expected ≡ Ok new
Writes expected new (Err fault) = Gives expected (Err fault)

-- the piece of a query that raises a condition, after its first line
abbrev pub Shows : List ℕ → ValueFault → List ℕ → Type 0
Shows first (Condition state) piece = piece ≡ first ++ condition_lines (of_state state)
Shows first Memory piece = ⊥
