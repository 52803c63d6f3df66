-- What is known of code and of a routine before its lines are looked at.
use Rattle.std.specs.Prelude.{◌≡◌, Bool, false, List, [], map, reverse, slice_get, Option, Some, None, option_map}
use Rattle.psm_exprcode.specs.declared.op.Letter.{Letter}
use Rattle.psm_exprcode.specs.Kinds.{is_letter}
use Rattle.psm_exprcode.specs.declared.query.Query.{Query}
use Rattle.psm_code.specs.declared.code.Plan.{Plan}
use Rattle.psm_code.specs.declared.code.Plan.TheVariants as plans
use Rattle.psm_code.specs.declared.code.RawCode.{RawCode}
use Rattle.psm_code.specs.declared.code.RawRoutine.{RawRoutine}
use Rattle.psm_verify.specs.declared.calls.Call.{Call}
use Rattle.psm_verify.specs.Called.{call_of}
use Rattle.psm_code.specs.Instructions.{column_letters, item_letters, letters_in, letters_of_query, variables_of}

-- the letters of one row of a plan that inserts rows of values, the last one first, where the letters of the columns of each table are
-- known; none where the table or a column isn't there
abbrev pub row_with : List (List Letter) → Plan → Option (List Letter)
row_with columns (plans.Insert table cs rows) = option_map reverse (letters_in cs (slice_get columns table))
row_with columns (plans.InsertQuery table cs query) = None
row_with columns (plans.Update table sets test) = None
row_with columns (plans.Delete table test) = None
row_with columns (plans.UpdateAt cursor sets) = None
row_with columns (plans.DeleteAt cursor) = None

-- the letters of the columns of each table, those of the variables, those of the items of each query, those of a row of each plan, and
-- those of each routine's calls
pub record Known (code : RawCode) (r : RawRoutine) (columns : List (List Letter)) (variables : List Letter) (items : List (List Letter)) (rows : List (Option (List Letter))) (calls : List Call) : Type 0 where
  pub columns_are : columns ≡ map column_letters code.tables
  pub variables_are : variables ≡ variables_of r
  pub items_are : items ≡ map (letters_of_query code r) r.queries
  pub rows_are : rows ≡ map (row_with columns) r.plans
  pub calls_are : calls ≡ map call_of code.routines

-- whether an item is of a column's letter
abbrev pub fits_column : Option Letter → Letter → Bool
fits_column None item = false
fits_column (Some l) item = is_letter l item

abbrev pub listed : Option (List Letter) → List Letter
listed None = []
listed (Some letters) = letters

-- the letters of the items of a query, where those of the columns of each table are known
abbrev pub letters_with : List (List Letter) → List Letter → Query → List Letter
letters_with columns variables q = item_letters (listed (slice_get columns q.table)) variables q.items
