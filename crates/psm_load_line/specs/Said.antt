-- What the readers of lines answer: what a line says, as the types of Rust have it.
use Rattle.std.specs.Prelude.{◌≡◌, ℕ, List, ◌∷◌, codes, map, nat_eq, Option, Some, None, Result, Ok, Err, if◌then◌else◌}
use Rattle.std.specs.Cmp.Lexicographic.{pointwise}
use Rattle.std.specs.List.{list_all}
use Rattle.psm_sqlstate.specs.declared.state.SqlState.{SqlState}
use Rattle.psm_sqlstate.specs.State.{is_state_character}
use Rattle.psm_cond.specs.declared.handlers.ConditionValue.{ConditionValue}
use Rattle.psm_cond.specs.declared.handlers.ConditionValue.TheVariants as values
use Rattle.psm_cond.specs.declared.handlers.Declared.{Declared}
use Rattle.psm_cond.specs.declared.handlers.Declared.TheVariants as declares
use Rattle.psm_cond.specs.declared.handlers.Handler.{Handler}
use Rattle.psm_table.specs.declared.definition.ForeignKey.{ForeignKey}
use Rattle.psm_load_line.specs.Forms as forms
use Rattle.psm_load_line.specs.Forms.{ValueWord, Delete, DeleteAt, Function, Insert, InsertQuery, Named, NotFound, Rows, SqlException, SqlWarning, State, Update, UpdateAt, Value}
use Rattle.psm_load_line.specs.RoutineForms as routines
use Rattle.psm_load_line.specs.declared.fault.Unread.{Unread}
use Rattle.psm_load_line.specs.declared.fault.Unread.TheVariants.{Misfit, Memory}
use Rattle.psm_load_line.specs.declared.head.ControlCounts.{ControlCounts}
use Rattle.psm_load_line.specs.declared.head.DataCounts.{DataCounts}
use Rattle.psm_load_line.specs.declared.head.ItemHead.{ItemHead}
use Rattle.psm_load_line.specs.declared.head.ItemHead.TheVariants as item
use Rattle.psm_load_line.specs.declared.head.PlanHead.{PlanHead}
use Rattle.psm_load_line.specs.declared.head.PlanHead.TheVariants as plan
use Rattle.psm_load_line.specs.declared.head.QueryHead.{QueryHead}
use Rattle.psm_load_line.specs.declared.head.Reference.{Reference}
use Rattle.psm_load_line.specs.declared.head.RoutineHead.{RoutineHead}
use Rattle.psm_load_line.specs.declared.head.TableHead.{TableHead}

-- what is read where a line says that, unless memory runs out
abbrev pub Reads : {A : Type 0} → Option A → Result A Unread → Type 0
Reads said (Ok a) = said ≡ Some a
Reads said (Err Misfit) = said ≡ None
Reads said (Err Memory) = Unit {0}

-- ---- lines that count others

abbrev pub table_head_of : forms.TableHead → TableHead
table_head_of h = record { name = h.0; columns = h.1.0; uniques = h.1.1.0; checks = h.1.1.1.0; keys = h.1.1.1.1 }

abbrev pub query_head_of : forms.QueryHead → QueryHead
query_head_of h = record { table = h.0; downward = h.1.0; items = h.1.1.0; has_test = h.1.1.1 }

abbrev pub item_head_of : forms.ItemHead → ItemHead
item_head_of Value = item.Value
item_head_of (Function f) = item.Function f
item_head_of Rows = item.Rows

abbrev pub plan_head_of : forms.PlanHead → PlanHead
plan_head_of (Insert table rows column columns) = plan.Insert table rows (column ∷ columns)
plan_head_of (InsertQuery table query column columns) = plan.InsertQuery table query (column ∷ columns)
plan_head_of (Update table sets has_test) = plan.Update table sets has_test
plan_head_of (Delete table has_test) = plan.Delete table has_test
plan_head_of (UpdateAt cursor sets) = plan.UpdateAt cursor sets
plan_head_of (DeleteAt cursor) = plan.DeleteAt cursor

abbrev pub data_counts_of : routines.DataCounts → DataCounts
data_counts_of c = record { parameters = c.0; slots = c.1.0; queries = c.1.1.0; cursors = c.1.1.1.0; plans = c.1.1.1.1 }

abbrev pub control_counts_of : routines.ControlCounts → ControlCounts
control_counts_of c = record { conditions = c.0; contexts = c.1.0; handlers = c.1.1.0; lines = c.1.1.1 }

abbrev pub routine_head_of : routines.RoutineHead → RoutineHead
routine_head_of h = record { is_function = h.0; name = h.1.0; data_counts = data_counts_of h.1.1.0; control_counts = control_counts_of h.1.1.1.0; returns = h.1.1.1.1 }

-- ---- lists of columns, which have one

abbrev pub columns_of : ℕ × List ℕ → List ℕ
columns_of x = x.0 ∷ x.1

abbrev pub reference_of : forms.ReferenceWords → Reference
reference_of x = record { columns = columns_of x.0; to = x.1.0; target = columns_of x.1.1 }

-- the FOREIGN KEY constraint of the table of that number
abbrev pub key_from : ℕ → Reference → ForeignKey
key_from n r = record { from = n; columns = r.columns; to = r.to; target = r.target }

-- ---- conditions and handlers: a state that is none, or a name on another state than 45000, stands for the state 00000, which breaks the
-- same rule on the same line

abbrev pub state_of : List ℕ → SqlState
state_of s = if list_all is_state_character s then s else codes "00000"

abbrev pub declared_of : List ℕ × Option (List ℕ) → Declared
declared_of (s, None) = declares.OfState (state_of s)
declared_of (s, Some name) = if pointwise nat_eq s (codes "45000") then declares.Named name else declares.OfState (codes "00000")

abbrev pub value_of : ValueWord → ConditionValue
value_of (Named n) = values.Named n
value_of (State s) = values.State (state_of s)
value_of SqlException = values.SqlException
value_of SqlWarning = values.SqlWarning
value_of NotFound = values.NotFound

abbrev pub handler_of : forms.HandlerHead → Handler
handler_of h = record { context = h.0.0; kind = h.0.1.0; pc = h.0.1.1; values = record { first = value_of h.1.0; rest = map value_of h.1.1 } }
