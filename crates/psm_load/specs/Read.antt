-- The parts of a listing, by what the readers of their lines give.
use Rattle.std.specs.Prelude.{List}
use Rattle.psm_exprcode.specs.declared.op.Line.{Line}
use Rattle.psm_code.specs.declared.code.Plan.{Plan}
use Rattle.psm_code.specs.declared.code.Plan.TheVariants as plans
use Rattle.psm_load_line.specs.Forms as forms
use Rattle.psm_load_line.specs.Forms.{column_at, item_at, key_at, reference_at, unique_at}
use Rattle.psm_load_line.specs.Readers.{LineReader}
use Rattle.psm_load_line.specs.RoutineForms as routines
use Rattle.psm_load_line.specs.Said.{columns_of, reference_of}
use Rattle.psm_load_line.specs.declared.head.ControlCounts.{ControlCounts}
use Rattle.psm_load_line.specs.declared.head.DataCounts.{DataCounts}
use Rattle.psm_load_line.specs.declared.head.ItemHead.{ItemHead}
use Rattle.psm_load_line.specs.declared.head.ItemHead.TheVariants as item
use Rattle.psm_load_line.specs.declared.head.PlanHead.{PlanHead}
use Rattle.psm_load_line.specs.declared.head.PlanHead.TheVariants as plan
use Rattle.psm_load_line.specs.declared.head.QueryHead.{QueryHead}
use Rattle.psm_load_line.specs.declared.head.RoutineHead.{RoutineHead}
use Rattle.psm_load_line.specs.declared.head.TableHead.{TableHead}
use Rattle.psm_load.specs.Parts.{Part, given, if_there, noting, one, times, ◌>>◌}
use Rattle.psm_load.specs.Stated.{breaks_rows, breaks_sets, expression, set_item, set_of_item, value_of_item}
use Rattle.psm_exprcode.specs.declared.aggregate.Aggregate.{Aggregate}
use Rattle.psm_load.specs.declared.tables.TableText.{TableText}

-- a line, of which that is kept
abbrev pub says : {A B : Type 0} → (A → B) → LineReader A → Part B
says f read = one read >> λ a. given (f a)

-- ---- tables

abbrev pub table_read : TableHead → Part TableText
table_read h =
    times h.columns (one column_at) >> λ columns. says columns_of key_at >> λ key. times h.uniques (says columns_of unique_at) >> λ uniques. times h.keys (says reference_of reference_at) >> λ references. times h.checks expression
    >> λ checks. given (record { table = record { definition = record { name = h.name; columns = columns; key = key; unique = uniques }; checks = checks }; references = references })

-- ---- queries

abbrev pub query_words : QueryHead → forms.QueryHead
query_words h = (h.table, (h.downward, (h.items, h.has_test)))

abbrev pub item_words : ItemHead → forms.ItemHead
item_words item.Value = forms.Value
item_words (item.Function f) = forms.Function f
item_words item.Rows = forms.Rows

-- an item after the first one
abbrev pub row_item : Part (List Line)
row_item = noting breaks_rows item_at >> value_of_item

abbrev pub set_function : Part Aggregate
set_function = noting breaks_sets item_at >> set_of_item

-- ---- plans

abbrev pub plan_read : PlanHead → Part Plan
plan_read (plan.Insert table rows columns) = given (plans.Insert table columns rows)
plan_read (plan.InsertQuery table query columns) = given (plans.InsertQuery table columns query)
plan_read (plan.Update table n has_test) = times n set_item >> λ assignments. if_there has_test expression >> λ test. given (plans.Update table assignments test)
plan_read (plan.Delete table has_test) = if_there has_test expression >> λ test. given (plans.Delete table test)
plan_read (plan.UpdateAt cursor n) = times n set_item >> λ assignments. given (plans.UpdateAt cursor assignments)
plan_read (plan.DeleteAt cursor) = given (plans.DeleteAt cursor)

-- ---- routines

abbrev pub data_words : DataCounts → routines.DataCounts
data_words c = (c.parameters, (c.slots, (c.queries, (c.cursors, c.plans))))

abbrev pub control_words : ControlCounts → routines.ControlCounts
control_words c = (c.conditions, (c.contexts, (c.handlers, c.lines)))

abbrev pub routine_words : RoutineHead → routines.RoutineHead
routine_words h = (h.is_function, (h.name, (data_words h.data_counts, (control_words h.control_counts, h.returns))))
