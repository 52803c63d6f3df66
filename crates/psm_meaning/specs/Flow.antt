-- IF, CASE, LOOP, WHILE, REPEAT and FOR (ISO/IEC 9075-4:1996).
use Rattle.std.specs.Prelude.{ℕ, List, [], ◌∷◌, codes, nat_eq, Option, Some, None, if◌then◌else◌}
use Rattle.psm_value.specs.declared.datum.Datum.{Datum}
use Rattle.psm_value.specs.declared.truth.Truth as truth
use Rattle.psm_value.specs.Truth.{is_certain}
use Rattle.psm_table.specs.Cursors.{Closed}
use Rattle.psm_resolved.specs.declared.expr.ResolvedExpr.{ResolvedExpr}
use Rattle.psm_resolved.specs.declared.statement.ResolvedBranch.{ResolvedBranch, out-ResolvedBranch}
use Rattle.psm_resolved.specs.declared.statement.ResolvedFor.{ResolvedFor}
use Rattle.psm_resolved.specs.declared.statement.ResolvedStatement.{ResolvedStatement}
use Rattle.psm_meaning.specs.State.{EvalContext, seeing, with_cursor}
use Rattle.psm_meaning.specs.Acts.{Outcome, Normal, Leave, Iterate, Return, Raised, Away, Stopped, Round, Act, got, of_state, truth_of, value_of, ◌>>=◌, ◌>>◌, Deed, all, at_turn, following, changing, ends_as}
use Rattle.psm_meaning.specs.Assigning.{assign_all}
use Rattle.psm_meaning.specs.Cursors.{next, open_cursor}
use Rattle.psm_meaning.specs.Raising.{after, raised}
use Rattle.psm_meaning.specs.Values.{is_equal}

-- ---- IF and CASE: a condition of a test is raised at the whole statement

-- the statements after the first test that is true
abbrev pub branched : EvalContext → (ResolvedExpr → Act truth.Truth) → List ResolvedBranch → Deed → Deed
branched eval_context test [] otherwise = otherwise
branched eval_context test (b ∷ branches) otherwise = after eval_context (test (out-ResolvedBranch b).test) (λ t.
    if is_certain t then all eval_context (out-ResolvedBranch b).statements else branched eval_context test branches otherwise)

-- CASE without ELSE raises a condition
abbrev pub else_of : EvalContext → List ResolvedStatement → Deed
else_of eval_context [] = raised eval_context (of_state (codes "20000"))
else_of eval_context (s ∷ ss) = all eval_context (s ∷ ss)

-- an operand is evaluated once
abbrev pub cased : EvalContext → Option ResolvedExpr → List ResolvedBranch → Deed → Deed
cased eval_context None branches otherwise = branched eval_context truth_of branches otherwise
cased eval_context (Some e) branches otherwise = after eval_context (value_of e) (λ d. branched eval_context (is_equal d) branches otherwise)

-- ---- loops

-- after the statement list of a loop: ITERATE of its own label goes on as its end does, and LEAVE of it ends the loop normally
abbrev pub repeated : ℕ → Deed → Outcome → Deed
repeated level again Normal = again
repeated level again (Leave l) = ends_as (if nat_eq l level then Normal else Leave l)
repeated level again (Iterate l) = if nat_eq l level then again else ends_as (Iterate l)
repeated level again (Return d) = ends_as (Return d)
repeated level again (Raised c) = ends_as (Raised c)
repeated level again (Away l h c) = ends_as (Away l h c)
repeated level again (Stopped stop) = ends_as (Stopped stop)

-- a turn is used for each run of the list, and then it is begun again
abbrev pub looped : ℕ → EvalContext → List ResolvedStatement → Deed → Deed
looped level eval_context statements again = at_turn (following (all eval_context statements) (repeated level again))

-- a turn is used for each test
abbrev pub while_true : ℕ → EvalContext → ResolvedExpr → List ResolvedStatement → Deed → Deed
while_true level eval_context test statements again = at_turn (after eval_context (truth_of test) (λ t.
    if is_certain t then following (all eval_context statements) (repeated level again) else ends_as Normal))

abbrev pub until_true : ℕ → EvalContext → List ResolvedStatement → ResolvedExpr → Deed → Deed
until_true level eval_context statements until again = at_turn (following (all eval_context statements) (repeated level
    (after eval_context (truth_of until) (λ t. if is_certain t then ends_as Normal else again))))

-- ---- FOR

-- the items of the next row, stored in the variables of the statement
abbrev pub kept : EvalContext → List ℕ → Option (List Datum) → Act (Option (List Datum))
kept eval_context slots None = got None
kept eval_context slots (Some ds) = do
  assign_all eval_context slots ds
  got (Some ds)

abbrev pub row_of_for : EvalContext → ResolvedFor → Act (Option (List Datum))
row_of_for eval_context head = do
  row ← next head.cursor
  kept eval_context head.slots row

-- the statements over a row; the end of the rows is normal and reaches no handler
abbrev pub over_row : ℕ → EvalContext → ResolvedFor → List ResolvedStatement → Deed → Option (List Datum) → Deed
over_row level eval_context head statements again None = ends_as Normal
over_row level eval_context head statements again (Some ds) = following (all (seeing (head.cursor ∷ []) eval_context) statements) (repeated level again)

-- a turn is used for each fetch, whose conditions are raised at the whole statement
abbrev pub round : ℕ → EvalContext → ResolvedFor → List ResolvedStatement → Deed → Deed
round level eval_context head statements again = at_turn (after eval_context (row_of_for eval_context head) (over_row level eval_context head statements again))

abbrev pub rounds : ℕ → EvalContext → ResolvedFor → List ResolvedStatement → Deed
rounds level eval_context head statements m st = m.done (Round level head statements) eval_context st

-- its cursor is closed however it ends
abbrev pub for_each : ℕ → EvalContext → ResolvedFor → List ResolvedStatement → Deed
for_each level eval_context head statements = after eval_context (open_cursor head.cursor) (λ _.
    following (rounds level eval_context head statements) (λ o. changing (with_cursor head.cursor.number Closed) (ends_as o)))
