-- Which lines are due in a text: each line says which stand after it.
use Rattle.std.specs.Prelude.{ℕ, suc, Bool, true, false, List, [], ◌∷◌, ◌++◌, replicate, nat_eq, Option, Some, None, if◌then◌else◌}
use Rattle.psm_words.specs.Reading.{◌>>=◌}
use Rattle.psm_load_line.specs.Forms.{ItemHead, PlanHead, QueryHead, TableHead, column_at, condition_at, context_at, first_at, handler_at, item_at, key_at, plan_at, query_at, reference_at, set_at, table_at, unique_at, Delete, DeleteAt, Function, Insert, InsertQuery, Rows, Update, UpdateAt, Value}
use Rattle.psm_load_line.specs.InstructionForms.{code_line_at, operation_line_at}
use Rattle.psm_load_line.specs.OperationForms.{expression_at}
use Rattle.psm_load_line.specs.RoutineForms.{ControlCounts, DataCounts, RoutineHead, cursor_at, parameter_at, routine_at, slot_at}

pub data Due : Type 0 where
  First Table Column Key Unique Reference Routine Parameter Slot Query Item Cursor Plan Set Condition Context Handler Line Expression Operation : Due

-- ---- what stands after a line

abbrev pub due_after_first : ℕ × ℕ → List Due
due_after_first (tables, routines) = replicate tables Table ++ replicate routines Routine

abbrev pub due_after_table : TableHead → List Due
due_after_table (name, (columns, (uniques, (checks, keys)))) = replicate columns Column ++ Key ∷ replicate uniques Unique ++ replicate keys Reference ++ replicate checks Expression

abbrev pub data_due : DataCounts → List Due
data_due (parameters, (slots, (queries, (cursors, plans)))) =
    (replicate parameters Parameter ++ replicate slots Slot) ++ (replicate queries Query ++ replicate cursors Cursor ++ replicate plans Plan)

abbrev pub control_due : ControlCounts → List Due
control_due (conditions, (contexts, (handlers, lines))) = (replicate conditions Condition ++ replicate contexts Context ++ replicate handlers Handler) ++ replicate lines Line

abbrev pub due_after_routine : RoutineHead → List Due
due_after_routine (is_function, (name, (kept, (control, returns)))) = data_due kept ++ control_due control

abbrev pub test_due : Bool → List Due
test_due false = []
test_due true = Expression ∷ []

abbrev pub due_after_query : QueryHead → List Due
due_after_query (table, (downward, (items, has_test))) = replicate items Item ++ test_due has_test

abbrev pub due_after_item : ItemHead → List Due
due_after_item Value = Expression ∷ []
due_after_item (Function f) = Expression ∷ []
due_after_item Rows = []

abbrev pub due_after_plan : PlanHead → List Due
due_after_plan (Insert table rows column columns) = []
due_after_plan (InsertQuery table query column columns) = []
due_after_plan (Update table sets has_test) = replicate sets Set ++ test_due has_test
due_after_plan (Delete table has_test) = test_due has_test
due_after_plan (UpdateAt cursor sets) = replicate sets Set
due_after_plan (DeleteAt cursor) = []

-- nothing stands after it
abbrev pub fits : {A : Type 0} → Option A → Option (List Due)
fits form = form >>= λ a. Some []

-- the lines that stand after a line, if it is one of the kind that is due
abbrev pub due_after : Due → List ℕ → Option (List Due)
due_after First l = first_at l >>= λ c. Some (due_after_first c)
due_after Table l = table_at l >>= λ t. Some (due_after_table t)
due_after Column l = fits (column_at l)
due_after Key l = fits (key_at l)
due_after Unique l = fits (unique_at l)
due_after Reference l = fits (reference_at l)
due_after Routine l = routine_at l >>= λ r. Some (due_after_routine r)
due_after Parameter l = fits (parameter_at l)
due_after Slot l = fits (slot_at l)
due_after Query l = query_at l >>= λ q. Some (due_after_query q)
due_after Item l = item_at l >>= λ i. Some (due_after_item i)
due_after Cursor l = fits (cursor_at l)
due_after Plan l = plan_at l >>= λ p. Some (due_after_plan p)
due_after Set l = set_at l >>= λ i. Some (Expression ∷ [])
due_after Condition l = fits (condition_at l)
due_after Context l = fits (context_at l)
due_after Handler l = fits (handler_at l)
due_after Line l = fits (code_line_at l)
due_after Expression l = expression_at l >>= λ m. Some (replicate m Operation)
due_after Operation l = fits (operation_line_at l)

-- ---- the first line that doesn't fit

-- how it goes on after a line
abbrev pub going_on : ℕ → Option (List Due) → (List Due → Option ℕ) → Option ℕ
going_on n None others = Some n
going_on n (Some more) others = others more

-- the number of the first line that isn't the one that is due, or that is missing, counted from n
abbrev pub misfit : ℕ → List Due → List (List ℕ) → Option ℕ
misfit n [] [] = None
misfit n (d ∷ ds) [] = Some n
misfit n [] (l ∷ ls) = Some n
misfit n (d ∷ ds) (l ∷ ls) = going_on n (due_after d l) (λ more. misfit (suc n) (more ++ ds) ls)

-- the lines of a text that end with a line feed, and what follows the last one
abbrev pub on_line : ℕ → List (List ℕ) × List ℕ → List (List ℕ) × List ℕ
on_line c ([], rest) = ([], c ∷ rest)
on_line c (l ∷ ls, rest) = ((c ∷ l) ∷ ls, rest)

abbrev pub new_line : List (List ℕ) × List ℕ → List (List ℕ) × List ℕ
new_line x = ([] ∷ x.0, x.1)

abbrev pub lines_in : List ℕ → List (List ℕ) × List ℕ
lines_in [] = ([], [])
lines_in (c ∷ s) = if nat_eq c 10 then new_line (lines_in s) else on_line c (lines_in s)

-- a last line without line feed doesn't fit
abbrev pub misfit_in : List (List ℕ) → List ℕ → Option ℕ
misfit_in lines [] = misfit 1 (First ∷ []) lines
misfit_in lines (c ∷ rest) = misfit 1 (First ∷ []) (lines ++ [] ∷ [])

-- the number of the first line by which a text is no listing, if it isn't one
abbrev pub first_misfit : List ℕ → Option ℕ
first_misfit text = misfit_in (lines_in text).0 (lines_in text).1
