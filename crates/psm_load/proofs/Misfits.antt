-- Each part of code ends at the first line that isn't the one that is due, or goes on after its own. So lines stand for code exactly where
-- each is one of the kind that is due.
use Rattle.std.proofs.Common.{◌≡◌, ℕ, zero, suc, List, [], ◌∷◌, ◌++◌, Option, Some, None, Result, Ok, Err, refl, sym, ◌∙◌, append_assoc}
use Rattle.std.specs.Prelude.{replicate}
use Rattle.psm_exprcode.specs.declared.items.Items.TheVariants as items
use Rattle.psm_code.specs.declared.code.RawCode.{RawCode}
use Rattle.psm_load_line.specs.Forms.{ItemHead, PlanHead, TableHead, column_at, condition_at, context_at, first_at, handler_at, item_at, key_at, plan_at, query_at, reference_at, set_at, table_at, unique_at, Delete, DeleteAt, Function, Insert, InsertQuery, Rows, Update, UpdateAt, Value}
use Rattle.psm_load_line.specs.InstructionForms.{code_line_at, operation_line_at}
use Rattle.psm_load_line.specs.OperationForms.{expression_at}
use Rattle.psm_load_line.specs.RoutineForms.{ControlCounts, DataCounts, RoutineHead, cursor_at, parameter_at, routine_at, slot_at}
use Rattle.psm_load.specs.Due.{Due, due_after, due_after_first, due_after_item, due_after_plan, due_after_query, due_after_routine, due_after_table, control_due, data_due, first_misfit, lines_in, misfit, misfit_in, Column, Condition, Context, Cursor, Expression, First, Item, Key, Operation, Parameter, Reference, Routine, Set, Slot, Table, Unique}
use Rattle.psm_load.specs.Due as due
use Rattle.psm_load.specs.Stated.{Stated, access_by, all_lines, at_start, breaks_place, breaks_rows, breaks_sets, code, condition, expression, handler, handling_by, items_by, items_of, more_rows, more_sets, operation, plan, plan_by, query, routine, routine_by, set_item, set_of_item, stated, table, table_by, value_of_item, variables_by, whole}
use Rattle.psm_load.proofs.Following.{Answer, Follows, Lines, after_part, follows_due, follows_given, follows_line, follows_line_and, follows_made, follows_one, follows_test, follows_then, follows_times}

-- ---- expressions and tables

follows_operation : Follows (Operation ∷ []) operation
follows_operation = follows_line Operation breaks_place operation_line_at (λ x. []) (λ l. refl) (λ x. follows_given _)

follows_expression : Follows (Expression ∷ []) expression
follows_expression = follows_line Expression (λ n. None) expression_at (λ n. replicate n Operation) (λ l. refl) (λ n. follows_times n follows_operation)

four_due : (a b c d : List Due) → a ++ Key ∷ (b ++ (c ++ d)) ≡ a ++ Key ∷ b ++ c ++ d
four_due a b c d = sym (append_assoc a (Key ∷ b) (c ++ d)) ∙ sym (append_assoc (a ++ Key ∷ b) c d)

follows_table_by : (h : TableHead) → Follows (due_after_table h) (table_by h)
follows_table_by h = follows_due (four_due (replicate h.1.0 Column) (replicate h.1.1.0 Unique) (replicate h.1.1.1.1 Reference) (replicate h.1.1.1.0 Expression)) (
    follows_then (follows_times h.1.0 (follows_one Column column_at (λ l. refl))) (λ columns.
    follows_then (follows_one Key key_at (λ l. refl)) (λ key.
    follows_then (follows_times h.1.1.0 (follows_one Unique unique_at (λ l. refl))) (λ uniques.
    follows_then (follows_times h.1.1.1.1 (follows_one Reference reference_at (λ l. refl))) (λ references.
    follows_made _ (follows_times h.1.1.1.0 follows_expression))))))

follows_table : Follows (Table ∷ []) table
follows_table = follows_line Table (λ h. None) table_at due_after_table (λ l. refl) follows_table_by

-- ---- queries

follows_value : (i : ItemHead) → Follows (due_after_item i) (value_of_item i)
follows_value Value = follows_expression
follows_value (Function f) = follows_expression
follows_value Rows = follows_given []

follows_set_of : (i : ItemHead) → Follows (due_after_item i) (set_of_item i)
follows_set_of Value = follows_made _ follows_expression
follows_set_of (Function f) = follows_made _ follows_expression
follows_set_of Rows = follows_given _

follows_more_rows : (n : ℕ) → Follows (replicate n Item) (more_rows n)
follows_more_rows n = follows_times n (follows_line Item breaks_rows item_at due_after_item (λ l. refl) follows_value)

follows_more_sets : (n : ℕ) → Follows (replicate n Item) (more_sets n)
follows_more_sets n = follows_times n (follows_line Item breaks_sets item_at due_after_item (λ l. refl) follows_set_of)

follows_items_by : (n : ℕ) (i : ItemHead) → Follows (due_after_item i ++ replicate n Item) (items_by n i)
follows_items_by n Value = follows_then follows_expression (λ lines. follows_made _ (follows_more_rows n))
follows_items_by n (Function f) = follows_then (follows_set_of (Function f)) (λ a. follows_made _ (follows_more_sets n))
follows_items_by n Rows = follows_then (follows_set_of Rows) (λ a. follows_made (λ others. items.Sets (a ∷ others)) (follows_more_sets n))

follows_items : (n : ℕ) → Follows (replicate n Item) (items_of n)
follows_items zero = follows_given _
follows_items (suc n) = follows_line_and Item (replicate n Item) (λ i. None) item_at due_after_item (λ l. refl) (follows_items_by n)

follows_query : Follows (due.Query ∷ []) query
follows_query = follows_line due.Query (λ h. None) query_at due_after_query (λ l. refl) (λ h. follows_then (follows_items h.1.1.0) (λ found. follows_made _ (follows_test h.1.1.1 follows_expression)))

-- ---- plans

follows_set_item : Follows (Set ∷ []) set_item
follows_set_item = follows_line Set (λ n. None) set_at (λ n. Expression ∷ []) (λ l. refl) (λ column. follows_made _ follows_expression)

follows_plan_by : (h : PlanHead) → Follows (due_after_plan h) (plan_by h)
follows_plan_by (Insert t rows column columns) = follows_given _
follows_plan_by (InsertQuery t q column columns) = follows_given _
follows_plan_by (Update t n has_test) = follows_then (follows_times n follows_set_item) (λ assignments. follows_made _ (follows_test has_test follows_expression))
follows_plan_by (Delete t has_test) = follows_made _ (follows_test has_test follows_expression)
follows_plan_by (UpdateAt cursor n) = follows_made _ (follows_times n follows_set_item)
follows_plan_by (DeleteAt cursor) = follows_given _

follows_plan : Follows (due.Plan ∷ []) plan
follows_plan = follows_line due.Plan (λ h. None) plan_at due_after_plan (λ l. refl) follows_plan_by

-- ---- conditions and handlers

follows_condition : Follows (Condition ∷ []) condition
follows_condition = follows_made _ (follows_one Condition condition_at (λ l. refl))

follows_handler : Follows (due.Handler ∷ []) handler
follows_handler = follows_made _ (follows_one due.Handler handler_at (λ l. refl))

-- ---- routines and code

follows_variables : (c : DataCounts) → Follows (replicate c.0 Parameter ++ replicate c.1.0 Slot) (variables_by c)
follows_variables c = follows_then (follows_times c.0 (follows_one Parameter parameter_at (λ l. refl))) (λ ps. follows_made _ (follows_times c.1.0 (follows_one Slot slot_at (λ l. refl))))

follows_access : (c : DataCounts) → Follows (replicate c.1.1.0 due.Query ++ replicate c.1.1.1.0 Cursor ++ replicate c.1.1.1.1 due.Plan) (access_by c)
follows_access c = follows_due (sym (append_assoc (replicate c.1.1.0 due.Query) (replicate c.1.1.1.0 Cursor) (replicate c.1.1.1.1 due.Plan))) (
    follows_then (follows_times c.1.1.0 follows_query) (λ qs.
    follows_then (follows_times c.1.1.1.0 (follows_one Cursor cursor_at (λ l. refl))) (λ cs. follows_made _ (follows_times c.1.1.1.1 follows_plan))))

follows_handling : (c : ControlCounts) → Follows (replicate c.0 Condition ++ replicate c.1.0 Context ++ replicate c.1.1.0 due.Handler) (handling_by c)
follows_handling c = follows_due (sym (append_assoc (replicate c.0 Condition) (replicate c.1.0 Context) (replicate c.1.1.0 due.Handler))) (
    follows_then (follows_times c.0 follows_condition) (λ ds.
    follows_then (follows_times c.1.0 (follows_one Context context_at (λ l. refl))) (λ cs. follows_made _ (follows_times c.1.1.0 follows_handler))))

follows_routine_by : (h : RoutineHead) → Follows (due_after_routine h) (routine_by h)
follows_routine_by h =
    let d = h.1.1.0 in
    let c = h.1.1.1.0 in
    follows_due (sym (append_assoc (replicate d.0 Parameter ++ replicate d.1.0 Slot) (replicate d.1.1.0 due.Query ++ replicate d.1.1.1.0 Cursor ++ replicate d.1.1.1.1 due.Plan) (control_due c))) (
    follows_then (follows_variables d) (λ vs. follows_then (follows_access d) (λ access. follows_then (follows_handling c) (λ hs.
    follows_made _ (follows_times c.1.1.1 (follows_one due.Line code_line_at (λ l. refl)))))))

follows_routine : Follows (Routine ∷ []) routine
follows_routine = follows_line Routine (λ h. None) routine_at due_after_routine (λ l. refl) follows_routine_by

follows_code : Follows (First ∷ []) code
follows_code = follows_line First (λ c. None) first_at due_after_first (λ l. refl) (λ c. follows_then (follows_made _ (follows_times c.0 follows_table)) (λ ts. follows_made _ (follows_times c.1 follows_routine)))

-- ---- texts

-- what the lines stand for, or the first that doesn't fit
abbrev pub misfit_of : Result Stated ℕ → Option ℕ
misfit_of (Err n) = Some n
misfit_of (Ok s) = None

misfit_is : (lines : Lines) → misfit 1 (First ∷ []) lines ≡ misfit_of (whole (code at_start lines))
misfit_is lines = follows_code.misfits at_start [] lines ∙ by (code at_start lines) where
  by : (r : Answer RawCode) → after_part r [] ≡ misfit_of (whole r)
  by (Err n) = refl
  by (Ok (c, (at, []))) = refl
  by (Ok (c, (at, l ∷ ls))) = refl

pub first_misfit_is : (text : List ℕ) → first_misfit text ≡ misfit_of (stated text)
first_misfit_is text = by (lines_in text).0 (lines_in text).1 where
  by : (lines : Lines) (unfinished : List ℕ) → misfit_in lines unfinished ≡ misfit_of (whole (code at_start (all_lines lines unfinished)))
  by lines [] = misfit_is lines
  by lines (c ∷ rest) = misfit_is (lines ++ [] ∷ [])
